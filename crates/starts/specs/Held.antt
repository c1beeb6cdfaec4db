-- What is each place's own, with a number for each place: the weight of the lines whose path meets the place first, and
-- the most breakers on such a path of a line or a station.
use Rattle.std.specs.Prelude.{ℕ, ◌≤◌, ◌≡◌, max, Option, None, Some, List, length, get_or, set}
use Rattle.model.specs.Network.{Network}
use Rattle.savings.specs.Breakers.{end_at}
use Rattle.sets.specs.Start.{own_at, own_in_series_at}
use Rattle.starts.specs.declared.Own.{Own}

-- the number of place p
abbrev pub own_in : Own → ℕ → ℕ
own_in own p = get_or own.numbers p 0

-- the weight of what meets each place first, of the breakers and places
abbrev pub HoldsOwn : Network → Own → Type 0
HoldsOwn N own = (p : ℕ) → 1 ≤ p → p ≤ length N.places → own_in own p ≡ own_at N (end_at N p)

-- the most breakers on a path that meets each place first, of the places
abbrev pub HoldsOwnInSeries : Network → Own → Type 0
HoldsOwnInSeries N own = (p : ℕ) → 1 ≤ p → p ≤ length N.places → own_in own p ≡ own_in_series_at N (end_at N p)

-- the numbers with that of a place, if there is one, raised to at least n
abbrev pub raised : List ℕ → Option ℕ → ℕ → List ℕ
raised numbers None n = numbers
raised numbers (Some p) n = set numbers p (max (get_or numbers p 0) n)
