use mathlib.Core.Path.{◌≡◌}
use lib.ListN.{take}
use Rattle.model.specs.Lists.{sum}
use Rattle.bounds.proofs.Columns.{Rows}
use Rattle.bounds.proofs.Bounds.write_sums.Given as goal

abbrev pub invariant-loop-left : goal.invariant-loop-left
invariant-loop-left l = (l.sum ≡ sum (take l.left l.list)) × Rows l.list l.passed l.left l.initial.self.sums l.self.sums
