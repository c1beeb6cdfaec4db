-- What is held of the path of each line to the HV station: the breaker that trips for the line and the breakers on the path; the
-- first place.
use Rattle.std.specs.Prelude.{ℕ, ◌≡◌, Option, None, Some}
use Rattle.model.specs.Network.{Network}
use Rattle.model.specs.Paths.{line, End}
use Rattle.model.specs.Rules.{breakers_on}
use Rattle.model.specs.Outage.{path_to_hv, tripped}
use Rattle.network.specs.There.{LineThere, end_in}
use Rattle.network.specs.Found.{found}
use Rattle.theory.specs.Behind.{far}
use Rattle.tree.specs.Linked.{code_end}
use Rattle.tree.specs.Held.{near_in}
use Rattle.tree.specs.declared.Tree.{Tree}
use Rattle.sets.specs.Stops.{first_place}
use Rattle.sets.specs.Apart.{place_ends}
use Rattle.sets.specs.Sets.{route}
use Rattle.marks.specs.Held.{place_on, mark_on}
use Rattle.marks.specs.declared.Marks.{Marks}
use Rattle.paths.specs.Meets.{or_else, met_in}
use Rattle.paths.specs.declared.Paths.{Paths}
use Rattle.paths.specs.declared.Firsts.{Firsts}

-- the breaker that trips for a line, by its code
abbrev pub breaker_of : Option ℕ → End
breaker_of None = end_in 0 1
breaker_of (Some code) = code_end code

-- what is held of a line: the breaker that trips for it, and how many breakers are on its path
abbrev pub trip_in : Paths → ℕ → End
trip_in p l = breaker_of (met_in p.mets.lines l).first

abbrev pub count_in : Paths → ℕ → ℕ
count_in p l = (met_in p.mets.lines l).count

-- the breakers on a line's path
abbrev pub path_breakers : Network → ℕ → ℕ
path_breakers N l = breakers_on N (path_to_hv N (line l))

-- the breaker that trips for each line, and the breakers on its path
abbrev pub HoldsTrips : Network → Paths → Type 0
HoldsTrips N p = (l : ℕ) → LineThere N l → trip_in p l ≡ tripped N l

abbrev pub HoldsCounts : Network → Paths → Type 0
HoldsCounts N p = (l : ℕ) → LineThere N l → count_in p l ≡ path_breakers N l

-- both
pub record HoldsPaths (N : Network) (p : Paths) : Type 0 where
  pub trips : HoldsTrips N p
  pub counts : HoldsCounts N p

-- the first place on the path of a line, and on that of the station that the line feeds
abbrev pub first_in : Firsts → ℕ → Option ℕ
first_in f l = (met_in f.mets.lines l).first

abbrev pub first_beyond_in : Firsts → Tree → Marks → ℕ → Option ℕ
first_beyond_in f t places l = or_else (mark_on places (far (near_in t l))) (first_in f l)

abbrev pub HoldsFirsts : Network → Firsts → Type 0
HoldsFirsts N f = (l : ℕ) → LineThere N l → first_in f l ≡ found (place_on N (first_place (place_ends N) (route N l)))
