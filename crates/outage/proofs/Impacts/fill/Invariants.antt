use Prim.Native.Nat.{◌+◌, ◌≤◌}
use mathlib.Core.Path.{◌≡◌}
use lib.ListN.{length}
use Rattle.outage.proofs.Breakers.{Before}
use Rattle.outage.proofs.Impacts.fill.Given as goal

-- The lines before this one have their impacts.
abbrev pub invariant-loop-line : goal.invariant-loop-line
invariant-loop-line l = (l.line-end ≡ length l.net.lines + 1) × (1 ≤ l.line) × (l.line ≤ l.line-end) × Before l.net l.self l.line
