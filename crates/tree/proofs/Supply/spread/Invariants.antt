use Rattle.std.specs.Prelude.{◌-◌, ◌≤◌, length, take}
use Rattle.tree.specs.Queue.{Queue, Reached}
use Rattle.tree.proofs.Supply.spread.Given as goal

-- The lines that leave the far stations of the lines before place i are noted.
abbrev pub invariant-loop-i : goal.invariant-loop-i
invariant-loop-i l = (l.i ≤ length l.self.order.items) × Queue l.net (Reached l.net (take l.i l.self.order.items)) l.self

abbrev pub decreases-loop-i : goal.decreases-loop-i
decreases-loop-i l = 768 - l.i
