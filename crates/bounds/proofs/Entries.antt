-- A number of the table of the bounds of a file.
use Prim.Native.Nat.{ℕ, zero, suc, ◌+◌, ◌-◌, ◌≤◌}
use mathlib.Core.Path.{◌≡◌, ap, ◌∙◌}
use mathlib.Core.List.{map}
use native.Mathlib.Omega.{arith}
use lib.ListN.{length, length-map, drop}
use Rattle.model.specs.Lists.{numbers}
use Rattle.model.specs.Network.{Network}
use Rattle.model.specs.Sets.{place_numbers, saving}
use Rattle.model.specs.Walk.{largest}
use Rattle.theory.specs.Sizes.{numbers-length}
use Rattle.bounds.specs.Bounds.{HoldsBounds, sum_in, most_saved}
use Rattle.bounds.specs.declared.Bounds.{Bounds}

drop-numbers : (f : ℕ → ℕ) (k from count : ℕ) → drop k (map f (numbers from count)) ≡ map f (numbers (from + k) (count - k))
unfolding numbers
drop-numbers f zero from count = λ i. map f (numbers (at i) (less i))
  where
    at : from ≡ from + 0
    at = omega arith

    less : count ≡ count - 0
    less = omega arith
drop-numbers f (suc k) from zero = ap (λ n. map f (numbers (from + suc k) n)) {x = 0} {y = 0 - suc k} (omega arith)
drop-numbers f (suc k) from (suc count) = drop-numbers f k (from + 1) count ∙ (λ i. map f (numbers (at i) (less i)))
  where
    at : from + 1 + k ≡ from + suc k
    at = omega arith

    less : count - k ≡ suc count - suc k
    less = omega arith

module _ (N : Network) where
  -- the bound of the table
  pub bound-is : (bounds : Bounds) → HoldsBounds N bounds → (r place : ℕ) → r ≤ 16 → 1 ≤ place → place ≤ length N.places → sum_in bounds r (place - 1) ≡ most_saved N r place
  unfolding place_numbers
  bound-is bounds t r place f l h =
      t r (place - 1) f (omega arith) (omega (arith, length-map (numbers 1 (length N.places)) (λ p. saving N p), numbers-length 1 (length N.places)))
      ∙ ap (largest r) (drop-numbers (λ p. saving N p) (place - 1) 1 (length N.places))
      ∙ (λ i. largest r (map (λ p. saving N p) (numbers (m i) (n i))))
    where
      m : 1 + (place - 1) ≡ place
      m = omega arith

      n : length N.places - (place - 1) ≡ length N.places + 1 - place
      n = omega arith
