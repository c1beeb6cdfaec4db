-- Where the places rise, `sets_up_to` lists its sets in dictionary order.
use Rattle.std.specs.Prelude.{refl, ℕ, zero, suc, ◌+◌, ◌≤◌, ◌<◌}
use Rattle.std.proofs.Common.{◌∙◌, ⊎_elim, arith}
use mathlib.Core.List.{List, [], ◌∷◌, ◌++◌, Sublistᴰ}
use mathlib.Core.List.Memᴰ
use mathlib.Core.List.{Memᴰ}
use Rattle.std.proofs.Math.Seq.{append_snoc}
use Rattle.model.specs.Lists.{numbers}
use Rattle.model.specs.Sets.{extensions}
use Rattle.model.specs.Demand.{Before, extended, smaller, further}
use Rattle.walks.specs.Sets.{extensions-extend}

module _ {A : Type 0} where
  -- `R` holds of each element and every later one
  abbrev pub Sorted : (A → A → Type 0) → List A → Type 0
  Sorted R [] = Unit {0}
  Sorted R (x ∷ xs) = ((y : A) → Memᴰ y xs → R x y) × Sorted R xs

  -- two sorted lists in a row, where `R` holds of each element of one and every element of the other
  sorted-append : {R : A → A → Type 0} (xs ys : List A) → Sorted R xs → Sorted R ys
      → ((x y : A) → Memᴰ x xs → Memᴰ y ys → R x y) → Sorted R (xs ++ ys)
  sorted-append [] ys s t h = t
  sorted-append (x ∷ xs) ys s t h = (
    (λ y m. ⊎_elim (s.0 y) (h x y (Memᴰ.head refl)) (Memᴰ.append_cases xs m)),
    sorted-append xs ys s.1 t (λ a b m n. h a b (Memᴰ.tail m) n),
  )

  -- the first of some elements of a list is in the list
  sublist-first : {x : A} {xs ys : List A} → Sublistᴰ (x ∷ xs) ys → Memᴰ x ys
  sublist-first (Sublistᴰ.cons s) = Memᴰ.tail (sublist-first s)
  sublist-first (Sublistᴰ.cons-cons e s) = Memᴰ.head e

-- each number is below all later ones
abbrev pub Rising : List ℕ → Type 0
Rising = Sorted ◌<◌

-- each set is before all later ones
abbrev pub Ordered : List (List ℕ) → Type 0
Ordered = Sorted Before

-- no number of the list is below the first
numbers-from : (from count p : ℕ) → Memᴰ p (numbers from count) → from ≤ p
unfolding numbers
numbers-from from zero p m = absurd (Memᴰ.not-nil m)
numbers-from from (suc count) p m =
    ⊎_elim (λ e. omega arith) (λ n. omega (arith, numbers-from (from + 1) count p n)) (Memᴰ.cases_cons m)

pub numbers-rising : (from count : ℕ) → Rising (numbers from count)
unfolding numbers
numbers-rising from zero = tt
numbers-rising from (suc count) = ((λ p m. omega (arith, numbers-from (from + 1) count p m)), numbers-rising (from + 1) count)

-- no set is before itself
pub before-irrefl : (S : List ℕ) → Before S S → ⊥
before-irrefl [] x = elim x [ ]
before-irrefl (p ∷ S) (smaller h) = omega arith
before-irrefl (p ∷ S) (further e h) = before-irrefl S h

-- a common start changes no order
before-joined : (S : List ℕ) {T U : List ℕ} → Before T U → Before (S ++ T) (S ++ U)
before-joined [] h = h
before-joined (p ∷ S) h = further refl (before-joined S h)

-- The extensions with the first of the places are before those without it.
pub extensions-ordered : (r : ℕ) (S later : List ℕ) → Rising later → Ordered (extensions r S later)
unfolding extensions
extensions-ordered r S [] x = tt
extensions-ordered zero S (q ∷ later) x = tt
extensions-ordered (suc r) S (q ∷ later) x = (
  (λ U m. ⊎_elim (after U) (last U []) (Memᴰ.append_cases (extensions r T later) m)),
  sorted-append (extensions r T later) (extensions (suc r) S later)
      (extensions-ordered r T later x.1) (extensions-ordered (suc r) S later x.1) between,
)
  where
    T : List ℕ
    T = S ++ (q ∷ [])

    after : (U : List ℕ) → Memᴰ U (extensions r T later) → Before T U
    after U m =
        let y = extensions-extend r T later U m in
        rw (y.joined ∙ append_snoc S q (y.next ∷ y.rest)) (before-joined S (further refl extended))

    last : (U rest : List ℕ) → Memᴰ U (extensions (suc r) S later) → Before (S ++ (q ∷ rest)) U
    last U rest m =
        let y = extensions-extend (suc r) S later U m in
        rw y.joined (before-joined S (smaller (x.0 y.next (sublist-first y.within))))

    between : (U W : List ℕ) → Memᴰ U (extensions r T later) → Memᴰ W (extensions (suc r) S later) → Before U W
    between U W m n =
        let y = extensions-extend r T later U m in
        rw (y.joined ∙ append_snoc S q (y.next ∷ y.rest)) (last W (y.next ∷ y.rest) n)
