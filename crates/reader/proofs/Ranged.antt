-- What the ranges say of the numbers of a record of each kind.
use mathlib.Core.Path.{◌≡◌}
use mathlib.Core.Bool.{true, and-eq-true_iff}
use mathlib.Core.List.{List, [], ◌∷◌}
use Prim.Native.Nat.{ℕ, zero, suc, ◌≤◌, ◌<◌}
use native.Mathlib.Omega.{arith}
use lib.Dec.{leb}
use lib.ListN.{length, get_or}
use borrow.Author.Tests.{leb-true}
use Rattle.model.specs.declared.Range.{Range}
use Rattle.model.specs.declared.Largest.TheVariants.{Lines}
use Rattle.model.specs.Ranges.{◌up_to◌, ◌to◌, row_n, row_s, row_l, row_p, largest_of, in_range, all_in_range}
use Rattle.model.specs.Network.{value}

in-range-at : (stations lines first : ℕ) (rs : List Range) (vs : List ℕ) → all_in_range stations lines first rs vs ≡ true
    → (i : ℕ) → i < length rs → i < length vs → in_range stations lines first (get_or rs i (0 to 0)) (get_or vs i 0) ≡ true
unfolding all_in_range
in-range-at s l f [] vs e i h k = absurd (omega arith)
in-range-at s l f (r ∷ rs) [] e i h k = absurd (omega arith)
in-range-at s l f (r ∷ rs) (v ∷ vs) e zero h k = ((and-eq-true_iff (in_range s l f r v) (all_in_range s l f rs vs)).0 e).0
in-range-at s l f (r ∷ rs) (v ∷ vs) e (suc i) h k = in-range-at s l f rs vs ((and-eq-true_iff (in_range s l f r v) (all_in_range s l f rs vs)).0 e).1 i (omega arith) (omega arith)

bounds : (stations lines first : ℕ) (r : Range) (v : ℕ) → in_range stations lines first r v ≡ true → (r.least ≤ v) × (v ≤ largest_of stations lines first r.largest)
unfolding in_range
bounds s l f r v e =
    let b = (and-eq-true_iff (leb r.least v) (leb v (largest_of s l f r.largest))).0 e in
    (leb-true _ _ b.0, leb-true _ _ b.1)

module _ (stations lines : ℕ) (vs : List ℕ) where
  pub head-bounds : length vs ≡ 8 → all_in_range stations lines (value vs 0) row_n vs ≡ true → (value vs 0 ≤ 512) × (value vs 1 ≤ 768)
  unfolding row_n largest_of
  head-bounds h e = (
    (bounds stations lines (value vs 0) (1 to 512) (value vs 0) (in-range-at stations lines (value vs 0) row_n vs e 0 (omega arith) (omega arith))).1,
    (bounds stations lines (value vs 0) (0 to 768) (value vs 1) (in-range-at stations lines (value vs 0) row_n vs e 1 (omega arith) (omega arith))).1,
  )

  pub station-bounds : length vs ≡ 2 → all_in_range stations lines (value vs 0) row_s vs ≡ true → value vs 0 ≤ 1
  unfolding row_s largest_of
  station-bounds h e = (bounds stations lines (value vs 0) (0 to 1) (value vs 0) (in-range-at stations lines (value vs 0) row_s vs e 0 (omega arith) (omega arith))).1

  pub line-bounds : length vs ≡ 5 → all_in_range stations lines (value vs 0) row_l vs ≡ true → (value vs 3 ≤ 2) × (value vs 4 ≤ 2)
  unfolding row_l largest_of
  line-bounds h e = (
    (bounds stations lines (value vs 0) (0 to 2) (value vs 3) (in-range-at stations lines (value vs 0) row_l vs e 3 (omega arith) (omega arith))).1,
    (bounds stations lines (value vs 0) (0 to 2) (value vs 4) (in-range-at stations lines (value vs 0) row_l vs e 4 (omega arith) (omega arith))).1,
  )

  pub place-bounds : length vs ≡ 4 → all_in_range stations lines (value vs 0) row_p vs ≡ true → (1 ≤ value vs 0) × (value vs 0 ≤ lines) × (1 ≤ value vs 1) × (value vs 1 ≤ 2)
  unfolding row_p largest_of
  place-bounds h e =
      let line = bounds stations lines (value vs 0) (1 up_to Lines) (value vs 0) (in-range-at stations lines (value vs 0) row_p vs e 0 (omega arith) (omega arith)) in
      let side = bounds stations lines (value vs 0) (1 to 2) (value vs 1) (in-range-at stations lines (value vs 0) row_p vs e 1 (omega arith) (omega arith)) in
      (line.0, line.1, side.0, side.1)
