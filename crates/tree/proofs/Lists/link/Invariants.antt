use Rattle.std.specs.Prelude.{◌+◌, ◌*◌, ◌-◌, ◌≤◌, length}
use Rattle.tree.specs.Queue.{LinkedAbove}
use Rattle.tree.proofs.Lists.link.Given as goal

-- The closed ends of the lines from this one on are linked.
abbrev pub invariant-loop-line : goal.invariant-loop-line
invariant-loop-line l = (1 ≤ l.line) × (l.line ≤ length l.net.lines + 1) × LinkedAbove l.net (2 * (l.line - 1)) l.self
