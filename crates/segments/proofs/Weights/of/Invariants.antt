use Prim.Native.Nat.{◌+◌, ◌≤◌}
use mathlib.Core.Path.{◌≡◌}
use lib.ListN.{length}
use Rattle.segments.proofs.Gathering.{Noted}
use Rattle.segments.proofs.Weights.of.Given as goal

abbrev pub invariant-loop-line : goal.invariant-loop-line
invariant-loop-line l = (l.line-end ≡ length l.net.lines + 1) × (1 ≤ l.line) × (l.line ≤ l.line-end) × (length l.weights.by_code ≡ 1537) × Noted l.net l.weights.by_code l.line
