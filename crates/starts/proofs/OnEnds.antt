-- The place on an end.
use Prim.Native.Nat.{ℕ, ◌≤◌}
use mathlib.Core.Path.{◌≡◌, refl, sym, ap, ◌∙◌}
use mathlib.Core.Bool.{Bool, true, false, ◌||◌, true≢false}
use mathlib.Core.Logic.{◌⊎◌, inl, inr, ⊎_elim}
use mathlib.Core.List.{List, [], ◌∷◌, map, Memᴰ}
use native.Mathlib.Omega.{arith}
use lib.Dec.{eqb}
use lib.ListN.{length}
use borrow.Author.Tests.{eq-eqb, ne_eqb}
use Rattle.model.specs.Lists.{any, first_or}
use Rattle.model.specs.Network.{Network}
use Rattle.model.specs.Paths.{End, same_end}
use Rattle.model.specs.Sets.{place_numbers}
use Rattle.savings.specs.Facts.{same_end-eq}
use Rattle.savings.specs.First.{this}
use Rattle.savings.specs.Breakers.{end_at}
use Rattle.theory.specs.Ends.{any-in, in-numbers, numbers-in}
use Rattle.theory.specs.Best.{Accepted}
use Rattle.sets.specs.Apart.{ends-apart}
use Rattle.marks.specs.Held.{place_on}

-- the first element that passes a test is one that does, if any does
pub first-cases : {A : Type 0} (other : A) (test : A → Bool) (xs : List A)
    → ((first_or other test xs ≡ other) × (any test xs ≡ false)) ⊎ (Memᴰ (first_or other test xs) xs × (test (first_or other test xs) ≡ true))
unfolding first_or any
first-cases other test [] = inl (refl, refl)
first-cases {A} other test (x ∷ xs) = go (test x) refl (first-cases other test xs)
  where
    rest : A
    rest = first_or other test xs

    go : (b : Bool) → test x ≡ b → ((rest ≡ other) × (any test xs ≡ false)) ⊎ (Memᴰ rest xs × (test rest ≡ true))
        → ((this b x rest ≡ other) × ((b || any test xs) ≡ false)) ⊎ (Memᴰ (this b x rest) (x ∷ xs) × (test (this b x rest) ≡ true))
    go true h r = inr (Memᴰ.head refl, h)
    go false h (inl r) = inl r
    go false h (inr r) = inr (Memᴰ.tail r.0, r.1)

any-map : {A B : Type 0} (test : B → Bool) (f : A → B) (xs : List A) → any test (map f xs) ≡ any (λ x. test (f x)) xs
unfolding any
any-map test f [] = refl
any-map test f (x ∷ xs) = ap (λ b. test (f x) || b) (any-map test f xs)

module _ (N : Network) where
  -- a place's number is that of one of the places
  pub place_in : (p : ℕ) → 1 ≤ p → p ≤ length N.places → Memᴰ p (place_numbers N)
  unfolding place_numbers
  place_in p a b = in-numbers p 1 (length N.places) a (omega arith)

  pub in_place : (p : ℕ) → Memᴰ p (place_numbers N) → (1 ≤ p) × (p ≤ length N.places)
  unfolding place_numbers
  in_place p m = let i = numbers-in p 1 (length N.places) m in (i.0, omega (arith, i.1))

  -- no end, or one with a place
  on-cases : (e : End) → ((place_on N e ≡ 0) × (any (λ p. same_end (end_at N p) e) (place_numbers N) ≡ false)) ⊎ (Memᴰ (place_on N e) (place_numbers N) × (same_end (end_at N (place_on N e)) e ≡ true))
  unfolding place_on
  on-cases e = first-cases 0 (λ p. same_end (end_at N p) e) (place_numbers N)

  pub on-most : (e : End) → place_on N e ≤ length N.places
  on-most e = ⊎_elim (λ x. omega (arith, x.0)) (λ x. (in_place (place_on N e) x.0).1) (on-cases e)

  -- it is the place whose end that is
  pub on-is : Accepted N → (p : ℕ) → 1 ≤ p → p ≤ length N.places → (e : End) → eqb (place_on N e) p ≡ same_end (end_at N p) e
  on-is a p i j e = go (same_end (end_at N p) e) refl (on-cases e)
    where
      go : (b : Bool) → same_end (end_at N p) e ≡ b → ((place_on N e ≡ 0) × (any (λ p. same_end (end_at N p) e) (place_numbers N) ≡ false)) ⊎ (Memᴰ (place_on N e) (place_numbers N) × (same_end (end_at N (place_on N e)) e ≡ true))
          → eqb (place_on N e) p ≡ b
      go true h (inl x) = absurd (true≢false (sym (any-in (λ p. same_end (end_at N p) e) p (place_numbers N) (place_in p i j) h) ∙ x.1))
      go true h (inr x) = eq-eqb (place_on N e) p (ends-apart N a (place_on N e) p x.0 (place_in p i j) (same_end-eq _ _ x.1 ∙ sym (same_end-eq _ _ h)))
      go false h (inl x) = ne_eqb (place_on N e) p (λ q. omega (arith, x.0))
      go false h (inr x) = ne_eqb (place_on N e) p (λ q. true≢false (sym x.1 ∙ ap (λ k. same_end (end_at N k) e) q ∙ h))
