use Prim.Native.Nat.{◌+◌, ◌-◌, ◌≤◌, max}
use mathlib.Core.Path.{◌≡◌}
use mathlib.Core.List.{[]}
use lib.ListN.{length}
use Rattle.savings.specs.Breakers.{end_at}
use Rattle.sets.specs.Sets.{in_series_at}
use Rattle.starts.specs.Own.{behind_in}
use Rattle.starts.specs.Held.{own_in}
use Rattle.starts.proofs.Numbers.{most_from}
use Rattle.starts.proofs.Own.start_in_series.Given as goal

abbrev pub invariant-loop-s : goal.invariant-loop-s
invariant-loop-s l =
    (l.s-end ≡ length l.net.places + 1) × (1 ≤ l.s) × (l.s ≤ l.s-end)
    × (max l.in_series (most_from (behind_in l.relations l.place) (own_in l.self) l.s l.s-end) ≡ in_series_at l.net [] (end_at l.net l.place))

abbrev pub decreases-loop-s : goal.decreases-loop-s
decreases-loop-s l = l.s-end - l.s
