-- Impact and total ("Impact and total").
use Rattle.std.specs.Prelude.{ℕ, ◌*◌, Bool, List, [], map}
use Rattle.model.specs.Lists.{any, keep, sum, first_or, numbered}
use Rattle.model.specs.Network.{Network, no_line}
use Rattle.model.specs.Paths.{Vertex, station, line, End, same_end, station_numbers, line_numbers, is_breaker, state, paths, target, at_hv, customers_of}

-- the path from a vertex to the HV station; in an accepted file there is just one
unfoldable pub path_to_hv : Network → Vertex → List End
unfolding first_or target at_hv paths
path_to_hv N v = first_or [] (λ es. at_hv N (target N v es)) (paths N v)

-- what stands for an end that is not there
abbrev pub no_end : End
no_end = record { line = 0; side = 0 }

-- the breaker end that trips for a fault on a line: the first that its path to the HV station meets
unfoldable pub tripped : Network → ℕ → End
unfolding path_to_hv first_or state
tripped N l = first_or no_end (λ e. is_breaker N e) (path_to_hv N (line l))

-- a station's path to the HV station passes an end
unfoldable pub passes : Network → End → ℕ → Bool
unfolding path_to_hv any
passes N e s = any (λ d. same_end d e) (path_to_hv N (station s))

-- the customers of all stations whose path to the HV station passes an end
unfoldable pub customers_behind : Network → End → ℕ
unfolding sum keep passes customers_of station_numbers
customers_behind N e = sum (map (λ s. customers_of N s) (keep (λ s. passes N e s) (station_numbers N)))

-- the impact of a fault on a line
unfoldable pub impact : Network → ℕ → ℕ
unfolding customers_behind tripped
impact N l = customers_behind N (tripped N l)

-- the outage amount of a line: weight × impact
unfoldable pub outage_amount : Network → ℕ → ℕ
unfolding impact numbered
outage_amount N l = (numbered no_line N.lines l).weight * impact N l

-- the total: the sum of the outage amounts
unfoldable pub total : Network → ℕ
unfolding sum outage_amount line_numbers
total N = sum (map (λ l. outage_amount N l) (line_numbers N))

-- the SAIDI figure
unfoldable pub figure : Network → ℕ
unfolding total
figure N = N.head.minutes * total N
