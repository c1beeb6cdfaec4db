-- The first breaker of a path: where values do not fall along a path, more breakers do not raise the value at the first,
-- and the breakers added lower it no more where more are there.
use Rattle.std.specs.Prelude.{ℕ, ◌+◌, ◌≤◌, Bool, ◌||◌, ◌≡◌, refl}
use Rattle.std.proofs.Math.Bool.{true, false}
use Rattle.std.proofs.lemmas.Bool.{false≢true}
use mathlib.Core.List.{List, [], ◌∷◌}
use native.Mathlib.Omega.{arith}
use Rattle.model.specs.Lists.{any, first_or}
use Rattle.savings.specs.Facts.{or_left}

module _ {A : Type 0} where
  -- every value is at least n
  abbrev pub Above : (A → ℕ) → ℕ → List A → Type 0
  Above val n [] = Unit {0}
  Above val n (e ∷ es) = (n ≤ val e) × Above val n es

  -- the values do not fall along the list
  abbrev pub Rising : (A → ℕ) → List A → Type 0
  Rising val [] = Unit {0}
  Rising val (e ∷ es) = Above val (val e) es × Rising val es

  -- what first_or takes of a list, by the test of its first element
  abbrev pub this : Bool → A → A → A
  this b e rest = elim b [ true ↦ e | false ↦ rest ]

module _ {A : Type 0} (val : A → ℕ) (other : A) where
  above-first : (n : ℕ) (B : A → Bool) (es : List A) → Above val n es → any B es ≡ true → n ≤ val (first_or other B es)
  unfolding first_or any
  above-first n B [] a h = absurd (false≢true h)
  above-first n B (e ∷ es) a h = go (B e) h (above-first n B es a.1)
    where
      go : (b : Bool) → (b || any B es) ≡ true → (any B es ≡ true → n ≤ val (first_or other B es)) → n ≤ val (this b e (first_or other B es))
      go true h ih = a.0
      go false h ih = ih h

  -- more breakers: no larger value
  pub first-mono : (B C : A → Bool) (es : List A) → Rising val es → any B es ≡ true → ((e : A) → B e ≡ true → C e ≡ true)
      → val (first_or other C es) ≤ val (first_or other B es)
  unfolding first_or any
  first-mono B C [] r h i = absurd (false≢true h)
  first-mono B C (e ∷ es) r h i = go (B e) (C e) (i e) h (λ k. first-mono B C es r.1 k i)
    where
      go : (b c : Bool) → (b ≡ true → c ≡ true) → (b || any B es) ≡ true → (any B es ≡ true → val (first_or other C es) ≤ val (first_or other B es))
          → val (this c e (first_or other C es)) ≤ val (this b e (first_or other B es))
      go true true j h ih = omega arith
      go true false j h ih = absurd (false≢true (j refl))
      go false true j h ih = above-first (val e) B es r.0 h
      go false false j h ih = ih h

  -- more breakers: the breakers P lower the value no more
  pub first-saves : (B C P : A → Bool) (es : List A) → Rising val es → any B es ≡ true → ((e : A) → B e ≡ true → C e ≡ true)
      → val (first_or other C es) + val (first_or other (λ e. B e || P e) es) ≤ val (first_or other (λ e. C e || P e) es) + val (first_or other B es)
  unfolding first_or any
  first-saves B C P [] r h i = absurd (false≢true h)
  first-saves B C P (e ∷ es) r h i = go (B e) (C e) (P e) (i e) h (λ k. first-saves B C P es r.1 k i)
    where
      go : (b c p : Bool) → (b ≡ true → c ≡ true) → (b || any B es) ≡ true
          → (any B es ≡ true
          → val (first_or other C es) + val (first_or other (λ e. B e || P e) es) ≤ val (first_or other (λ e. C e || P e) es) + val (first_or other B es))
          → val (this c e (first_or other C es)) + val (this (b || p) e (first_or other (λ e. B e || P e) es))
          ≤ val (this (c || p) e (first_or other (λ e. C e || P e) es)) + val (this b e (first_or other B es))
      go true true p j h ih = omega arith
      go true false p j h ih = absurd (false≢true (j refl))
      go false true true j h ih = omega (arith, above-first (val e) B es r.0 h)
      go false true false j h ih = omega (arith, first-mono B (λ e. B e || P e) es r.1 h (λ e. or_left (B e) (P e)))
      go false false true j h ih = omega (arith, first-mono B C es r.1 h i)
      go false false false j h ih = ih h
