-- At most `r` of a list sum to no more than the `r` largest of it.
use Rattle.std.specs.Prelude.{◌≡◌, refl, Bool, true, false, ℕ, zero, suc, ◌+◌, ◌≤◌, take, length, leb}
use Rattle.std.proofs.Common.{ap, zero-le, arith, leb-true, leb-false}
use mathlib.Core.List.{List, [], ◌∷◌, map, Sublistᴰ}
use Rattle.model.specs.Lists.{sum}
use Rattle.model.specs.Walk.{insert, falling, largest}

-- the first of a list, 0 where there is none
abbrev front : List ℕ → ℕ
front [] = 0
front (x ∷ xs) = x

-- no number is above the one before it
abbrev pub Falls : List ℕ → Type 0
Falls [] = Unit {0}
Falls (x ∷ xs) = (front xs ≤ x) × Falls xs

-- the sum of the first `r` of a list
abbrev first : ℕ → List ℕ → ℕ
first r xs = sum (take r xs)

-- `falling` gives a list that falls
insert-front : (b x : ℕ) (ys : List ℕ) → x ≤ b → front ys ≤ b → front (insert x ys) ≤ b
unfolding insert
insert-front b x [] h k = h
insert-front b x (y ∷ ys) h k =
    elim (leb y x) as (λ t. front (elim t as (λ _. List ℕ) [ true ↦ x ∷ y ∷ ys | false ↦ y ∷ insert x ys ]) ≤ b) [ true ↦ h | false ↦ k ]

insert-falls : (x : ℕ) (ys : List ℕ) → Falls ys → Falls (insert x ys)
unfolding insert
insert-falls x [] f = (zero-le, tt)
insert-falls x (y ∷ ys) f = go (leb y x) refl (insert-falls x ys f.1)
  where
    go : (t : Bool) → leb y x ≡ t → Falls (insert x ys) → Falls (insert x (y ∷ ys))
    go true e ih = rw (e, insert) (leb-true y x e, f)
    go false e ih = rw (e, insert) (insert-front y x ys (omega (arith, leb-false y x e)) f.0, ih)

pub falling-falls : (xs : List ℕ) → Falls (falling xs)
unfolding falling
falling-falls [] = tt
falling-falls (x ∷ xs) = insert-falls x (falling xs) (falling-falls xs)

-- a list that falls: its first `r` sum to no less than the next `r`
first_next : (r z : ℕ) (zs : List ℕ) → Falls (z ∷ zs) → first r zs ≤ first r (z ∷ zs)
unfolding sum
first_next zero z zs f = zero-le
first_next (suc r) z [] f = zero-le
first_next (suc r) z (w ∷ ws) f = omega (arith, first_next r w ws f.1)

-- one more number takes nothing off the first `r`
insert-first : (r x : ℕ) (ys : List ℕ) → Falls ys → first r ys ≤ first r (insert x ys)
unfolding insert sum
insert-first zero x ys f = zero-le
insert-first (suc r) x [] f = zero-le
insert-first (suc r) x (y ∷ ys) f = go (leb y x) refl (insert-first r x ys f.1)
  where
    go : (t : Bool) → leb y x ≡ t → first r ys ≤ first r (insert x ys) → first (suc r) (y ∷ ys) ≤ first (suc r) (insert x (y ∷ ys))
    go true e ih = rw (e, insert) (omega (arith, leb-true y x e, first_next r y ys f))
    go false e ih = rw (e, insert) (omega arith)

-- one more number adds at least itself to the first `r`, where one more is taken
insert-more : (r x : ℕ) (ys : List ℕ) → x + first r ys ≤ first (suc r) (insert x ys)
unfolding insert sum
insert-more zero x [] = omega arith
insert-more (suc r) x [] = omega arith
insert-more zero x (y ∷ ys) = go (leb y x) refl
  where
    go : (t : Bool) → leb y x ≡ t → x + 0 ≤ first 1 (insert x (y ∷ ys))
    go true e = rw (e, insert) (omega arith)
    go false e = rw (e, insert) (omega (arith, leb-false y x e))
insert-more (suc r) x (y ∷ ys) = go (leb y x) refl (insert-more r x ys)
  where
    go : (t : Bool) → leb y x ≡ t → x + first r ys ≤ first (suc r) (insert x ys) → x + first (suc r) (y ∷ ys) ≤ first (suc (suc r)) (insert x (y ∷ ys))
    go true e ih = rw (e, insert) (omega arith)
    go false e ih = rw (e, insert) (omega arith)

-- at most `r` of some places save no more than the `r` largest savings of all of them
pub sum-largest : (f : ℕ → ℕ) (r : ℕ) {T l : List ℕ} → Sublistᴰ T l → length T ≤ r → sum (map f T) ≤ largest r (map f l)
unfolding largest sum falling
sum-largest f r Sublistᴰ.slnil h = zero-le
sum-largest f r (Sublistᴰ.cons {a = a} {l₂ = l} s) h =
    omega (arith, sum-largest f r s h, insert-first r (f a) (falling (map f l)) (falling-falls (map f l)))
sum-largest f zero (Sublistᴰ.cons-cons e s) h = absurd (omega arith)
sum-largest f (suc r) (Sublistᴰ.cons-cons {b = b} {l₂ = l} e s) h =
    omega (arith, ap f e, sum-largest f r s (omega arith), insert-more r (f b) (falling (map f l)))
