-- The test of one range.
use Rattle.std.specs.Prelude.{◌≡◌, ℕ, ◌≤◌, ◌<◌, Bool, ◌&&◌, leb}
use Rattle.std.proofs.Common.{ap, sym, ◌∙◌}
use borrow.Author.Tests.{le-leb, lt-leb}
use Rattle.model.specs.declared.Range.{Range}
use Rattle.model.specs.Ranges.{in_range, largest_of}

module _ (stations lines first value : ℕ) (r : Range) where
  -- the value is at least the least: the test of the largest decides
  pub from-least : (low most : ℕ) → low ≡ r.least → most ≡ largest_of stations lines first r.largest → low ≤ value → leb value most ≡ in_range stations lines first r value
  unfolding in_range
  from-least low most l e h = ap (λ (n : ℕ). leb value n) e ∙ sym (ap (λ (b : Bool). b && leb value (largest_of stations lines first r.largest)) (le-leb _ _ (rw l at h)))

  -- the value is below the least
  pub below-least : (low : ℕ) → low ≡ r.least → value < low → leb low value ≡ in_range stations lines first r value
  unfolding in_range
  below-least low l h = lt-leb _ _ h ∙ sym (ap (λ (b : Bool). b && leb value (largest_of stations lines first r.largest)) (lt-leb _ _ (rw l at h)))
