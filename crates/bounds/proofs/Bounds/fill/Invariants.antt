use mathlib.Core.Path.{◌≡◌}
use lib.ListN.{length}
use Rattle.bounds.proofs.Columns.{Begins, Built}
use Rattle.bounds.proofs.Bounds.fill.Given as goal

abbrev pub invariant-loop-passed : goal.invariant-loop-passed
invariant-loop-passed l =
    let left = l.passed-iterator.iter.iter.rest.now in
    (l.passed-iterator.iter.count ≡ 0) × Begins left l.savings × Built l.savings (length left) l.self.sums l.list.items
