use mathlib.Core.Path.{◌≡◌}
use lib.ListN.{length, take}
use Rattle.tree.specs.Held.{lines_in}
use Rattle.paths.proofs.Passing.{Done}
use Rattle.paths.proofs.Mets.follow.Given as goal

abbrev pub invariant-loop-line : goal.invariant-loop-line
invariant-loop-line l = (l.line-items ≡ take (length l.net.lines) (lines_in l.tree)) × (length l.self.lines ≡ 768) × Done l.net l.tree l.marks l.self.lines l.line-index
