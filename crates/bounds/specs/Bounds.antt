-- The bounds of a search of a file: the sums of the largest savings of the places from each one on.
use Rattle.std.specs.Prelude.{ℕ, ◌+◌, ◌-◌, List, map, length}
use Rattle.model.specs.Lists.{numbers}
use Rattle.model.specs.Network.{Network}
use Rattle.model.specs.Sets.{place_numbers, saving}
use Rattle.model.specs.Walk.{largest}
use Rattle.bounds.specs.Table.{sum_at, ColumnsFrom}
use Rattle.bounds.specs.declared.Bounds.{Bounds}

-- the sum that the bounds have for so many savings, where so many places are passed over
abbrev pub sum_in : Bounds → ℕ → ℕ → ℕ
sum_in bounds left passed = sum_at bounds.sums left passed

-- the bounds are those of places with these savings
abbrev pub HoldsSums : List ℕ → Bounds → Type 0
HoldsSums savings bounds = ColumnsFrom savings 0 bounds.sums

-- the bounds are those of the file's savings
abbrev pub HoldsBounds : Network → Bounds → Type 0
HoldsBounds N bounds = HoldsSums (map (λ p. saving N p) (place_numbers N)) bounds

-- the places from one on
abbrev pub places_from : Network → ℕ → List ℕ
places_from N from = numbers from (length N.places + 1 - from)

-- the sum of the largest savings of the places from one on
abbrev pub most_saved : Network → ℕ → ℕ → ℕ
most_saved N left from = largest left (map (λ p. saving N p) (places_from N from))
