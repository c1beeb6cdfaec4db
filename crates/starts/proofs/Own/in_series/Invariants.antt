use Prim.Native.Nat.{◌+◌, ◌≤◌}
use mathlib.Core.Path.{◌≡◌}
use lib.ListN.{length}
use Rattle.starts.proofs.Raising.{Raised}
use Rattle.starts.proofs.Own.in_series.Given as goal

abbrev pub invariant-loop-line : goal.invariant-loop-line
invariant-loop-line l = (l.line-end ≡ length l.routes.net.now.lines + 1) × (1 ≤ l.line) × (l.line ≤ l.line-end) × Raised l.routes.net.now l.line-end l.own.numbers l.line
