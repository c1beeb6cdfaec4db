-- Sets of places: which are allowed, their totals, and how many there are ("The search", its first paragraph).
-- A set is the list of its places' numbers, rising.
use Rattle.std.specs.Prelude.{ℕ, zero, suc, ◌-◌, Bool, true, false, not, ◌&&◌, List, [], ◌∷◌, ◌++◌, map, length, leb, eqb}
use Rattle.model.specs.Lists.{sum, keep, numbers, numbered, renumbered}
use Rattle.model.specs.Network.{Network, Line, Place, no_line, no_place}
use Rattle.model.specs.Rules.{series_broken}
use Rattle.model.specs.Outage.{total}

-- the numbers of all places of a file
unfoldable pub place_numbers : Network → List ℕ
unfolding numbers
place_numbers N = numbers 1 (length N.places)

unfoldable pub place_at : Network → ℕ → Place
unfolding numbered
place_at N p = numbered no_place N.places p

-- a line with a breaker at one of its ends
unfoldable pub line_with_breaker : ℕ → Line → Line
line_with_breaker side l = record {
  weight = l.weight;
  from = l.from;
  to = l.to;
  state1 = elim (eqb side 1) [ true ↦ 1 | false ↦ l.state1 ];
  state2 = elim (eqb side 2) [ true ↦ 1 | false ↦ l.state2 ];
}

-- the file with a breaker at one place
unfoldable pub with_breaker : Network → Place → Network
unfolding line_with_breaker numbered renumbered
with_breaker N p = record {
  head = N.head;
  stations = N.stations;
  lines = renumbered N.lines p.line (line_with_breaker p.side (numbered no_line N.lines p.line));
  places = N.places;
}

-- the file with breakers at the places of a set
unfoldable pub with_breakers : Network → List ℕ → Network
unfolding with_breaker place_at
with_breakers N [] = N
with_breakers N (p ∷ S) = with_breakers (with_breaker N (place_at N p)) S

-- a set of places is allowed: its members, their costs and hours are within bounds, and with its breakers the series rule holds
unfoldable pub allowed : Network → List ℕ → Bool
unfolding sum place_at with_breakers series_broken
allowed N S =
    leb (length S) N.head.adds
    && leb (sum (map (λ p. (place_at N p).cost) S)) N.head.money
    && leb (sum (map (λ p. (place_at N p).hours) S)) N.head.hours
    && not (series_broken (with_breakers N S))

-- the total of a set
unfoldable pub set_total : Network → List ℕ → ℕ
unfolding total with_breakers
set_total N S = total (with_breakers N S)

-- a place's saving: the fall in total when it alone is added
unfoldable pub saving : Network → ℕ → ℕ
unfolding set_total
saving N p = total N - set_total N (p ∷ [])

-- the extensions of `S` by one to `r` of the places `later`, in dictionary order
unfoldable pub extensions : ℕ → List ℕ → List ℕ → List (List ℕ)
extensions r S [] = []
extensions zero S (q ∷ later) = []
extensions (suc r) S (q ∷ later) =
    let T = S ++ (q ∷ []) in
    T ∷ (extensions r T later ++ extensions (suc r) S later)

-- the sets of at most `most` of some places, each once
unfoldable pub sets_up_to : ℕ → List ℕ → List (List ℕ)
unfolding extensions
sets_up_to most places = [] ∷ extensions most [] places

-- the allowed sets of a file, each once: none has more than `adds` members
unfoldable pub allowed_sets : Network → List (List ℕ)
unfolding keep allowed sets_up_to place_numbers
allowed_sets N = keep (λ S. allowed N S) (sets_up_to N.head.adds (place_numbers N))

-- the number of allowed sets
unfoldable pub allowed_count : Network → ℕ
unfolding allowed_sets
allowed_count N = length (allowed_sets N)
