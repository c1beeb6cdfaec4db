-- The test of a record's numbers, range by range, over the pairs of a range and a number.
use Rattle.std.specs.Prelude.{◌≡◌, ℕ, ◌&&◌, List, [], ◌∷◌, refl}
use Rattle.std.specs.List.{list_all, zip}
use Rattle.std.proofs.Common.{ap}
use Rattle.model.specs.declared.Range.{Range}
use Rattle.model.specs.Ranges.{in_range, all_in_range}

pub all_in_range-zip : (stations lines first : ℕ) (rs : List Range) (vs : List ℕ)
    → list_all (λ p. in_range stations lines first p.0 p.1) (zip rs vs) ≡ all_in_range stations lines first rs vs
unfolding all_in_range
all_in_range-zip s l f [] vs = refl
all_in_range-zip s l f (r ∷ rs) [] = refl
all_in_range-zip s l f (r ∷ rs) (v ∷ vs) = ap (λ b. in_range s l f r v && b) (all_in_range-zip s l f rs vs)
