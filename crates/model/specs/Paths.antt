-- Ends, and paths over closed ends ("Radial rules", its first two sentences).
use Rattle.std.specs.Prelude.{ℕ, zero, suc, Bool, true, false, not, ◌&&◌, ◌||◌, length, eqb}
use mathlib.Core.List.{List, [], ◌∷◌, map, flat_map}
use Rattle.model.specs.Lists.{any, keep, numbers, numbered}
use Rattle.model.specs.Network.{Network, Station, no_line, state_at}

-- stations and lines are both vertices
pub data Vertex : Type 0 where
  station : ℕ → Vertex
  line : ℕ → Vertex

abbrev pub same_vertex : Vertex → Vertex → Bool
same_vertex (station a) (station b) = eqb a b
same_vertex (station a) (line b) = false
same_vertex (line a) (station b) = false
same_vertex (line a) (line b) = eqb a b

-- line ends are the edges: a line's number and the number of its end, 1 or 2
pub record End : Type 0 where
  pub line : ℕ
  pub side : ℕ

abbrev pub same_end : End → End → Bool
same_end d e = eqb d.line e.line && eqb d.side e.side

abbrev pub end1 : ℕ → End
end1 l = record { line = l; side = 1 }

abbrev pub end2 : ℕ → End
end2 l = record { line = l; side = 2 }

-- the numbers of all stations, and of all lines
unfoldable pub station_numbers : Network → List ℕ
unfolding numbers
station_numbers N = numbers 1 (length N.stations)

unfoldable pub line_numbers : Network → List ℕ
unfolding numbers
line_numbers N = numbers 1 (length N.lines)

-- the state of an end: 0 plain, 1 breaker, 2 open
unfoldable pub state : Network → End → ℕ
unfolding state_at numbered
state N e = state_at (numbered no_line N.lines e.line) e.side

abbrev pub is_plain : Network → End → Bool
is_plain N e = eqb (state N e) 0

abbrev pub is_breaker : Network → End → Bool
is_breaker N e = eqb (state N e) 1

abbrev pub is_open : Network → End → Bool
is_open N e = eqb (state N e) 2

-- the number of the station that an end is at
unfoldable pub station_at : Network → End → ℕ
unfolding numbered
station_at N e = elim (eqb e.side 1) [ true ↦ (numbered no_line N.lines e.line).from | false ↦ (numbered no_line N.lines e.line).to ]

-- the closed ends, by line, then end
unfoldable pub closed_ends : Network → List End
unfolding flat_map line_numbers keep state
closed_ends N = keep (λ e. not (is_open N e)) (flat_map (λ l. end1 l ∷ end2 l ∷ []) (line_numbers N))

-- an end joins its line and its station: a vertex is one of the two
unfoldable pub is_at : Network → Vertex → End → Bool
unfolding station_at
is_at N v e = same_vertex v (line e.line) || same_vertex v (station (station_at N e))

-- the other vertex of an end
unfoldable pub across : Network → Vertex → End → Vertex
unfolding station_at
across N (station s) e = line e.line
across N (line l) e = station (station_at N e)

-- the paths from `v` of at most `most` of the closed ends `ends`, none of them among `used`
unfoldable pub paths_from : Network → List End → ℕ → List End → Vertex → List (List End)
unfolding is_at across keep flat_map any
paths_from N ends zero used v = [] ∷ []
paths_from N ends (suc most) used v =
    [] ∷ flat_map (λ e. map (λ es. e ∷ es) (paths_from N ends most (e ∷ used) (across N v e)))
    (keep (λ e. is_at N v e && not (any (λ d. same_end d e) used)) ends)

-- The paths from a vertex: lists of closed ends, each at the vertex that the one before leads to. A path repeats no end,
-- so it has at most as many ends as are closed.
unfoldable pub paths : Network → Vertex → List (List End)
unfolding paths_from closed_ends
paths N v = paths_from N (closed_ends N) (length (closed_ends N)) [] v

-- the vertex that a path from `v` leads to
unfoldable pub target : Network → Vertex → List End → Vertex
unfolding across
target N v [] = v
target N v (e ∷ es) = target N (across N v e) es

-- what stands for a station that is not there
abbrev pub no_station : Station
no_station = record { role = 0; customers = 0 }

unfoldable pub is_hv : Network → ℕ → Bool
unfolding numbered
is_hv N s = eqb (numbered no_station N.stations s).role 1

unfoldable pub customers_of : Network → ℕ → ℕ
unfolding numbered
customers_of N s = (numbered no_station N.stations s).customers

-- the vertex is an HV station
unfoldable pub at_hv : Network → Vertex → Bool
unfolding is_hv
at_hv N (station s) = is_hv N s
at_hv N (line l) = false
