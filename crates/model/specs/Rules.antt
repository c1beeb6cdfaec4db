-- The radial rules, and with them which files are accepted: refusals 4 to 9 ("Radial rules").
use Rattle.std.specs.Prelude.{ℕ, ◌+◌, Bool, true, false, not, ◌&&◌, ◌||◌, List, [], ◌∷◌, ◌++◌, map, length, ltb}
use Rattle.model.specs.Lists.{any, keep}
use Rattle.model.specs.Answer.{Answer, given, ◌>>=◌, refuse_open_line, refuse_plain_at_hv, refuse_return, refuse_joined, refuse_unsupplied, refuse_series}
use Rattle.model.specs.Network.{Network, network_of}
use Rattle.model.specs.Paths.{Vertex, station, line, same_vertex, End, end1, end2, station_numbers, line_numbers, is_plain, is_breaker, is_open, state, station_at, paths, target, is_hv, at_hv}

-- rule 4: no line has both ends open
unfoldable pub both_open : Network → ℕ → Bool
unfolding state
both_open N l = is_open N (end1 l) && is_open N (end2 l)

-- rule 5: every closed end at an HV station is a breaker
unfoldable pub plain_at_hv : Network → End → Bool
unfolding state is_hv station_at
plain_at_hv N e = is_plain N e && is_hv N (station_at N e)

unfoldable pub unprotected : Network → ℕ → Bool
unfolding plain_at_hv
unprotected N l = plain_at_hv N (end1 l) || plain_at_hv N (end2 l)

-- rule 6: no path of one or more ends returns to its start
unfoldable pub returns_to : Network → Vertex → List End → Bool
unfolding target
returns_to N v [] = false
returns_to N v (e ∷ es) = same_vertex (target N v (e ∷ es)) v

unfoldable pub some_path_returns : Network → Bool
unfolding any paths returns_to station_numbers line_numbers
some_path_returns N =
    any (λ v. any (λ es. returns_to N v es) (paths N v))
    (map (λ s. station s) (station_numbers N) ++ map (λ l. line l) (line_numbers N))

-- rule 7: no path joins two different HV stations
unfoldable pub joins_another : Network → ℕ → List End → Bool
unfolding target at_hv
joins_another N h es = at_hv N (target N (station h) es) && not (same_vertex (target N (station h) es) (station h))

unfoldable pub some_joined : Network → Bool
unfolding any paths is_hv joins_another station_numbers
some_joined N = any (λ h. is_hv N h && any (λ es. joins_another N h es) (paths N (station h))) (station_numbers N)

-- rule 8: each station has a path to an HV station (an HV station has the empty one)
unfoldable pub is_supplied : Network → ℕ → Bool
unfolding any paths target at_hv
is_supplied N s = any (λ es. at_hv N (target N (station s) es)) (paths N (station s))

-- rule 9, the series rule: no path from an HV station passes more than `series` breakers
unfoldable pub breakers_on : Network → List End → ℕ
unfolding keep state
breakers_on N es = length (keep (λ e. is_breaker N e) es)

unfoldable pub series_broken : Network → Bool
unfolding any paths breakers_on is_hv station_numbers
series_broken N = any (λ h. is_hv N h && any (λ es. ltb N.head.series (breakers_on N es)) (paths N (station h))) (station_numbers N)

-- refused by a test
unfoldable pub unless : Bool → Answer Network → Answer Network → Answer Network
unless true refuse next = refuse
unless false refuse next = next

-- refused at the first number that a test takes
unfoldable pub unless_some : (ℕ → Bool) → List ℕ → (ℕ → Answer Network) → Answer Network → Answer Network
unless_some test [] refuse next = next
unless_some test (k ∷ ks) refuse next = elim (test k) [ true ↦ refuse k | false ↦ unless_some test ks refuse next ]

-- the number of a station's record, and of a line's
abbrev pub station_record : ℕ → ℕ
station_record s = 1 + s

abbrev pub line_record : Network → ℕ → ℕ
line_record N l = 1 + length N.stations + l

-- the rules 4 to 9 in turn
unfoldable pub radial : Network → Answer Network
unfolding unless unless_some both_open unprotected some_path_returns some_joined is_supplied series_broken
radial N =
    unless_some (λ l. both_open N l) (line_numbers N) (λ l. refuse_open_line (line_record N l))
    (unless_some (λ l. unprotected N l) (line_numbers N) (λ l. refuse_plain_at_hv (line_record N l))
    (unless (some_path_returns N) refuse_return
    (unless (some_joined N) refuse_joined
    (unless_some (λ s. not (is_supplied N s)) (station_numbers N) (λ s. refuse_unsupplied (station_record s))
    (unless (series_broken N) refuse_series
    (given N))))))

-- the network of an accepted file, or the file's refusal
unfoldable pub accepted : List ℕ → Answer Network
unfolding network_of radial
accepted file = network_of file >>= λ N. radial N
