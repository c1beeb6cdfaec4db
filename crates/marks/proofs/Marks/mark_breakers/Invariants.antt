use Prim.Native.Nat.{◌+◌, ◌*◌, ◌≤◌}
use mathlib.Core.Path.{◌≡◌}
use lib.ListN.{length}
use Rattle.marks.specs.Held.{breaker_code}
use Rattle.marks.proofs.Marking.{Below}
use Rattle.marks.proofs.Marks.mark_breakers.Given as goal

abbrev pub invariant-loop-code : goal.invariant-loop-code
invariant-loop-code l = (l.code-end ≡ 2 * length l.net.lines + 1) × (1 ≤ l.code) × (l.code ≤ l.code-end) × (length l.self.marks ≡ 1537) × Below (breaker_code l.net) l.self.marks l.code
