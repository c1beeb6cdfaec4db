-- An accepted file's places before any is chosen: their weights and the breakers in series with them, from the places behind them.
use Rattle.std.specs.Prelude.{ℕ, ◌≡◌, ◌||◌}
use Rattle.std.proofs.Common.{◌∙◌}
use mathlib.Core.List.{[], Memᴰ}
use Rattle.model.specs.Network.{Network}
use Rattle.model.specs.Paths.{same_end}
use Rattle.model.specs.Outage.{path_to_hv}
use Rattle.model.specs.Sets.{place_numbers}
use Rattle.graphs.specs.Sum.{on, sum_over}
use Rattle.savings.specs.Breakers.{end_at}
use Rattle.savings.specs.Totals.{breakers_with}
use Rattle.theory.specs.Behind.{sum-map, vertices}
use Rattle.theory.specs.Best.{Accepted}
use Rattle.sets.specs.Ways.{has}
use Rattle.sets.specs.InSeries.{most, most-map}
use Rattle.sets.specs.Onward.{onward}
use Rattle.sets.specs.Sets.{route, load, lines, weight_at, under_at, in_series_at, no-breaker, line-ways, vertex-ways}
use Rattle.sets.specs.Apart.{place_ends, ends-once}
use Rattle.sets.specs.Start.{own_at, own_in_series_at, place-free-of, no_place, place-listed}
use Rattle.sets.proofs.Stops.{weight-stops, in-series-stops}

module _ (N : Network) (a : Accepted N) where
  -- a place's weight is the sum of what is its own and of what is that of the places under it
  pub start-weight : (p : ℕ) → Memᴰ p (place_numbers N)
      → weight_at N [] (end_at N p) ≡ sum_over (λ s. on (same_end (end_at N s) (end_at N p) || under_at N [] (end_at N s) (end_at N p)) (own_at N (end_at N s))) (place_numbers N)
  start-weight p m =
      weight-stops (onward N) (breakers_with N []) (no-breaker N [] tt) (place_ends N) (place-free-of N a) (no_place N a) (end_at N p)
      (place-listed N a p m) (ends-once N a) (route N) (load N) (lines N) (line-ways N a.read a.rules)
      ∙ sum-map _ (λ s. end_at N s) (place_numbers N)

  -- the most breakers in series with a place, from the paths that meet it or a place behind it first
  pub start-in-series : (p : ℕ) → Memᴰ p (place_numbers N)
      → in_series_at N [] (end_at N p) ≡ most (λ s. same_end (end_at N s) (end_at N p) || has (end_at N p) (onward N (end_at N s))) (λ s. own_in_series_at N (end_at N s)) (place_numbers N)
  start-in-series p m =
      in-series-stops (onward N) (place_ends N) (no_place N a) (end_at N p) (place-listed N a p m) (breakers_with N []) (path_to_hv N) (vertices N) (vertex-ways N a.read a.rules)
      ∙ most-map _ (own_in_series_at N) (λ s. end_at N s) (place_numbers N)
