-- Sums over the elements of a list.
-- Assumes nothing.
use Rattle.std.specs.Prelude.{ℕ, ◌+◌, ◌≡◌, refl, ◌≢◌, ◌⊎◌, Bool, true, false}
use Rattle.std.proofs.Common.{sym, ◌∙◌, subst, inl, inr, arith}
use mathlib.Core.List.Memᴰ
use mathlib.Core.List.{List, [], ◌∷◌, Memᴰ}
use Rattle.graphs.specs.Graph.{Fresh, NoRepeat}

-- x where the test passes
abbrev pub on : Bool → ℕ → ℕ
on true x = x
on false x = 0

abbrev pub sum_over : {A : Type 0} → (A → ℕ) → List A → ℕ
sum_over f [] = 0
sum_over f (x ∷ l) = f x + sum_over f l

module _ {A : Type 0} where
  -- what is listed is not fresh
  pub Fresh-not : (x y : A) (l : List A) → Fresh x l → Memᴰ y l → y ≢ x
  Fresh-not x y [] f h = absurd (Memᴰ.not-nil h)
  Fresh-not x y (z ∷ l) f h = go (Memᴰ.cases_cons h) (λ k. Fresh-not x y l f.1 k)
    where
      go : (y ≡ z) ⊎ Memᴰ y l → (Memᴰ y l → y ≢ x) → y ≢ x
      go (inl e) r d = f.0 (sym d ∙ e)
      go (inr k) r d = r k d

  pub sum-ext : (f g : A → ℕ) (l : List A) → ((x : A) → Memᴰ x l → f x ≡ g x) → sum_over f l ≡ sum_over g l
  sum-ext f g [] h = refl
  sum-ext f g (x ∷ l) h = omega (arith, sum-ext f g l (λ y m. h y (Memᴰ.tail m)), h x (Memᴰ.head refl))

  pub sum-zero : (f : A → ℕ) (l : List A) → ((x : A) → Memᴰ x l → f x ≡ 0) → sum_over f l ≡ 0
  sum-zero f [] h = refl
  sum-zero f (x ∷ l) h = omega (arith, sum-zero f l (λ y m. h y (Memᴰ.tail m)), h x (Memᴰ.head refl))

  pub sum-add : (f g : A → ℕ) (l : List A) → sum_over (λ x. f x + g x) l ≡ sum_over f l + sum_over g l
  sum-add f g [] = refl
  sum-add f g (x ∷ l) = omega (arith, sum-add f g l)

  -- of a list without repeats one element only counts
  pub sum_one : (f : A → ℕ) (l : List A) (x : A) (n : ℕ) → NoRepeat l → Memᴰ x l → f x ≡ n → ((y : A) → Memᴰ y l → y ≢ x → f y ≡ 0) → sum_over f l ≡ n
  sum_one f [] x n once m e h = absurd (Memᴰ.not-nil m)
  sum_one f (z ∷ l) x n once m e h = go (Memᴰ.cases_cons m) (λ k. sum_one f l x n once.1 k e (λ y k d. h y (Memᴰ.tail k) d))
    where
      go : (x ≡ z) ⊎ Memᴰ x l → (Memᴰ x l → sum_over f l ≡ n) → f z + sum_over f l ≡ n
      go (inl q) r = omega (arith, subst (λ k. f k ≡ n) q e, sum-zero f l (λ y k. h y (Memᴰ.tail k) (λ d. Fresh-not z y l once.0 k (d ∙ q))))
      go (inr k) r = omega (arith, r k, h z (Memᴰ.head refl) (λ d. Fresh-not z x l once.0 k (sym d)))

pub sum-swap : {A B : Type 0} (f : A → B → ℕ) (l : List A) (m : List B) → sum_over (λ x. sum_over (λ y. f x y) m) l ≡ sum_over (λ y. sum_over (λ x. f x y) l) m
sum-swap f [] m = sym (sum-zero (λ y. 0) m (λ y _. refl))
sum-swap f (x ∷ l) m = omega (arith, sum-swap f l m, sum-add (λ y. f x y) (λ y. sum_over (λ x. f x y) l) m)
