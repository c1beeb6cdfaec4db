-- The segment table: the lines grouped by the breaker that trips for them (change request "Segment table").
use Rattle.std.specs.Prelude.{ℕ, ◌+◌, ◌*◌, ◌≡◌, get_or}
use mathlib.Core.List.{List, [], ◌∷◌, map, flat_map}
use Rattle.model.specs.Lists.{sum, keep, numbers, numbered}
use Rattle.model.specs.Answer.{given}
use Rattle.model.specs.Network.{Network, no_line}
use Rattle.model.specs.Paths.{End, same_end, end1, end2, line_numbers, state, is_breaker}
use Rattle.model.specs.Rules.{accepted}
use Rattle.model.specs.Outage.{tripped, customers_behind, total}
use Rattle.std.specs.Prelude.{Result, Ok, Err}
use Rattle.model.specs.declared.Refusal.{Refusal}

-- the breaker ends, by line, then end
unfoldable pub breaker_ends : Network → List End
unfolding flat_map line_numbers keep state
breaker_ends N = keep (λ e. is_breaker N e) (flat_map (λ l. end1 l ∷ end2 l ∷ []) (line_numbers N))

-- the weight of a line
abbrev pub weight_of : Network → ℕ → ℕ
weight_of N l = (numbered no_line N.lines l).weight

-- the weights of the lines that a breaker trips for
unfoldable pub weight_tripped : Network → End → ℕ
unfolding sum keep tripped line_numbers numbered
weight_tripped N e = sum (map (weight_of N) (keep (λ l. same_end (tripped N l) e) (line_numbers N)))

-- the outage amount of a breaker: the weights that it trips for × the customers behind it
unfoldable pub segment_amount : Network → End → ℕ
unfolding weight_tripped customers_behind
segment_amount N e = weight_tripped N e * customers_behind N e

-- an entry: line, end, weights, customers behind, product
unfoldable pub segment : Network → End → List ℕ
unfolding weight_tripped customers_behind segment_amount
segment N e = e.line ∷ e.side ∷ weight_tripped N e ∷ customers_behind N e ∷ segment_amount N e ∷ []

-- the table: an entry for each breaker end
unfoldable pub segment_table : Network → List ℕ
unfolding flat_map segment breaker_ends
segment_table N = flat_map (λ e. segment N e) (breaker_ends N)

-- ── what is claimed of the table in a buffer ──

-- the numbers at one position, from 0, of n entries at the start of a buffer
unfoldable pub column : ℕ → ℕ → List ℕ → List ℕ
unfolding numbers
column position n buffer = map (λ i. get_or buffer (5 * i + position) 0) (numbers 0 n)

-- all weights of a file
unfoldable pub all_weights : Network → ℕ
unfolding sum line_numbers numbered
all_weights N = sum (map (weight_of N) (line_numbers N))

-- n entries, taken breaker by breaker, give what the lines give: the products sum to the total, the weights to all weights.
pub record ByBreaker (N : Network) (n : ℕ) (buffer : List ℕ) : Type 0 where
  pub products : sum (column 4 n buffer) ≡ total N
  pub weights : sum (column 2 n buffer) ≡ all_weights N

-- the same of a declared answer, with its entries at the start of the buffer
unfoldable pub Groups : Network → Result ℕ Refusal → List ℕ → Type 0
Groups N (Ok n) buffer = ByBreaker N n buffer
Groups N (Err r) buffer = Unit

-- the claims of Segments, for a file, its answer and the buffer that it leaves
unfoldable pub BreakerByBreaker : List ℕ → Result ℕ Refusal → List ℕ → Type 0
unfolding Groups
BreakerByBreaker file answer buffer = (N : Network) → accepted file ≡ given N → Groups N answer buffer
