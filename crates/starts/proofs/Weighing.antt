-- The weight of a place before any is chosen, place after place of those under it.
use Prim.Native.Nat.{ℕ, ◌+◌, ◌≤◌, ◌<◌}
use mathlib.Core.Path.{◌≡◌, sym, ap, ◌∙◌}
use mathlib.Core.List.{[]}
use native.Mathlib.Omega.{arith}
use lib.ListN.{length}
use Rattle.model.specs.Lists.{numbers}
use Rattle.model.specs.Network.{Network}
use Rattle.model.specs.Paths.{End}
use Rattle.model.specs.Sets.{place_numbers}
use Rattle.graphs.specs.Sum.{on, sum-ext}
use Rattle.savings.specs.Breakers.{end_at}
use Rattle.savings.specs.Totals.{breakers_with}
use Rattle.theory.specs.Best.{Accepted}
use Rattle.sets.specs.Ways.{covers}
use Rattle.sets.specs.Sets.{route, weight_at}
use Rattle.sets.proofs.Start.{start-weight}
use Rattle.starts.specs.Own.{counts_for}
use Rattle.starts.specs.Held.{own_in, HoldsOwn}
use Rattle.starts.specs.declared.Own.{Own}
use Rattle.theory.specs.Gathering.{sum_from, sum-all, sum_first}
use Rattle.starts.proofs.Gathering.{weights-few}
use Rattle.starts.proofs.OnEnds.{place_in, in_place}

-- what place s adds to the weight of place p
abbrev pub share : Network → Own → ℕ → ℕ → ℕ
share N own p s = on (counts_for N p s) (own_in own s)

-- with what the places from s on add, a weight so far is the whole
pub weighed-more : (add : ℕ → ℕ) (so_far next s end whole : ℕ) → s < end → next ≡ so_far + add s → so_far + sum_from add s end ≡ whole → next + sum_from add (s + 1) end ≡ whole
weighed-more add so_far next s end whole b e h = omega (arith, h, e, sum_first add s end b)

module _ (N : Network) (a : Accepted N) where
  pub weight-few : (e : End) → weight_at N [] e ≤ 768000000
  weight-few e = weights-few N a (λ l. covers (breakers_with N []) e (route N l))

  pub weighed-all : (own : Own) → HoldsOwn N own → (p : ℕ) → 1 ≤ p → p ≤ length N.places → sum_from (share N own p) 1 (length N.places + 1) ≡ weight_at N [] (end_at N p)
  unfolding place_numbers
  weighed-all own o p i j =
      sum-all (share N own p) (length N.places)
      ∙ sum-ext _ _ (numbers 1 (length N.places)) (λ s m.
      let k = in_place N s m in
      ap (on (counts_for N p s)) (o s k.0 k.1))
      ∙ sym (start-weight N a p (place_in N p i j))
