use Prim.Native.Nat.{◌≤◌}
use mathlib.Core.Path.{◌≡◌}
use lib.ListN.{length}
use Rattle.marks.proofs.Marking.{MarkedFrom}
use Rattle.marks.proofs.Marks.mark_places.Given as goal

abbrev pub invariant-loop-place : goal.invariant-loop-place
invariant-loop-place l = (length l.self.marks ≡ 1537) × (1 ≤ l.place) × MarkedFrom l.net l.self.marks l.place
