-- The most breakers in series with a place before any is chosen, place after place of those behind it.
use Prim.Native.Nat.{ℕ, ◌+◌, ◌≤◌, ◌<◌, max}
use mathlib.Core.Path.{◌≡◌, sym, ◌∙◌}
use mathlib.Core.Bool.{Bool, ◌||◌}
use mathlib.Core.List.{[]}
use native.Mathlib.Omega.{arith}
use lib.ListN.{length}
use Rattle.model.specs.Lists.{numbers}
use Rattle.model.specs.Network.{Network}
use Rattle.model.specs.Sets.{place_numbers}
use Rattle.model.specs.Paths.{same_end}
use Rattle.graphs.specs.Sum.{on}
use Rattle.savings.specs.Breakers.{end_at}
use Rattle.theory.specs.Best.{Accepted}
use Rattle.sets.specs.Sets.{in_series_at}
use Rattle.sets.specs.Start.{own_in_series_at}
use Rattle.sets.specs.Ways.{has}
use Rattle.sets.specs.Onward.{onward}
use Rattle.sets.proofs.Start.{start-in-series}
use Rattle.relations.specs.Related.{HoldsRelations}
use Rattle.relations.specs.declared.Relations.{Relations}
use Rattle.starts.specs.Own.{behind_in}
use Rattle.starts.specs.Held.{own_in, HoldsOwnInSeries}
use Rattle.starts.specs.declared.Own.{Own}
use Rattle.starts.proofs.Numbers.{most_from, most-first, most-all, most-ext}
use Rattle.starts.proofs.OnEnds.{place_in, in_place}
use Rattle.starts.proofs.UnderPlaces.{behind-is}

-- with the most of the places from s on, the most so far is that of all
pub in-series-more : (test : ℕ → Bool) (f : ℕ → ℕ) (so_far next s end whole : ℕ) → s < end → next ≡ max so_far (on (test s) (f s)) → max so_far (most_from test f s end) ≡ whole
    → max next (most_from test f (s + 1) end) ≡ whole
in-series-more test f so_far next s end whole b e h = omega (arith, h, e, most-first test f s end b)

pub in-series-all : (N : Network) → Accepted N → (relations : Relations) (own : Own) → HoldsRelations N relations → HoldsOwnInSeries N own → (p : ℕ) → 1 ≤ p → p ≤ length N.places
    → most_from (behind_in relations p) (own_in own) 1 (length N.places + 1) ≡ in_series_at N [] (end_at N p)
unfolding place_numbers
in-series-all N a relations own h o p i j =
    most-all (behind_in relations p) (own_in own) (length N.places)
    ∙ most-ext (behind_in relations p) (own_in own) (λ k. same_end (end_at N k) (end_at N p) || has (end_at N p) (onward N (end_at N k))) (λ k. own_in_series_at N (end_at N k)) (numbers 1 (length N.places)) (λ s m.
    let k = in_place N s m in
    λ t. on (behind-is N a relations h p s (record { low = i; high = j }) (record { low = k.0; high = k.1 }) t) (o s k.0 k.1 t))
    ∙ sym (start-in-series N a p (place_in N p i j))
