use Prim.Native.Nat.{◌+◌, ◌-◌, ◌≤◌}
use mathlib.Core.Path.{◌≡◌}
use mathlib.Core.List.{[]}
use lib.ListN.{length}
use Rattle.savings.specs.Breakers.{end_at}
use Rattle.sets.specs.Sets.{weight_at}
use Rattle.starts.proofs.Weighing.{share}
use Rattle.theory.specs.Gathering.{sum_from}
use Rattle.starts.proofs.Own.start_weight.Given as goal

abbrev pub invariant-loop-s : goal.invariant-loop-s
invariant-loop-s l =
    (l.s-end ≡ length l.net.places + 1) × (1 ≤ l.s) × (l.s ≤ l.s-end)
    × (l.weight + sum_from (share l.net l.self l.place) l.s l.s-end ≡ weight_at l.net [] (end_at l.net l.place))

abbrev pub decreases-loop-s : goal.decreases-loop-s
decreases-loop-s l = l.s-end - l.s
