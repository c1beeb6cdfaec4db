use Prim.Native.Nat.{◌+◌, ◌≤◌}
use mathlib.Core.Path.{◌≡◌}
use lib.ListN.{length}
use Rattle.model.specs.Outage.{total}
use Rattle.outage.proofs.Totals.{amounts_from}
use Rattle.outage.proofs.total_of.Given as goal

-- The total so far and the amounts from this line on are the total.
abbrev pub invariant-loop-line : goal.invariant-loop-line
invariant-loop-line l = (l.line-end ≡ length l.net.lines + 1) × (1 ≤ l.line) × (l.line ≤ l.line-end) × (l.total.0 + amounts_from l.net l.line l.line-end ≡ total l.net)
