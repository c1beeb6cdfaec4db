-- The weights of the breakers, and the entries of the segment table end by end and line by line.
use Rattle.std.specs.Prelude.{ℕ, ◌≡◌, true, false, List, [], ◌++◌, get_or}
use Rattle.model.specs.Network.{Network}
use Rattle.model.specs.Paths.{End, end1, end2, is_breaker}
use Rattle.model.specs.Segments.{weight_tripped, segment}
use Rattle.theory.specs.Best.{Accepted}
use Rattle.tree.specs.Linked.{end_code}
use Rattle.outage.specs.Held.{HoldsCustomers}
use Rattle.outage.specs.declared.Behind.{Behind}
use Rattle.segments.specs.declared.Weights.{Weights}

-- the weight of the lines that a breaker trips for, by its code
abbrev pub weight_in : Weights → End → ℕ
weight_in w e = get_or w.by_code (end_code e) 0

abbrev pub HoldsWeights : Network → Weights → Type 0
HoldsWeights N w = (e : End) → is_breaker N e ≡ true → weight_in w e ≡ weight_tripped N e

-- the entry of an end: none, if it is no breaker
abbrev pub entry_of : Network → End → List ℕ
entry_of N e = elim (is_breaker N e) [ true ↦ segment N e | false ↦ [] ]

abbrev pub entries_of : Network → ℕ → List ℕ
entries_of N l = entry_of N (end1 l) ++ entry_of N (end2 l)

-- what the entries are made of: an accepted network, the customers behind each line and the weights of each breaker
pub record Summed (N : Network) (b : Behind) (w : Weights) : Type 0 where
  pub accepted : Accepted N
  pub behind : HoldsCustomers N b
  pub tripped : HoldsWeights N w
