use Prim.Native.Nat.{◌≤◌}
use Rattle.prospects.proofs.Saving.{Saved}
use Rattle.prospects.proofs.Tables.savings.Given as goal

abbrev pub invariant-loop-place : goal.invariant-loop-place
invariant-loop-place l = (1 ≤ l.place) × Saved l.self.net.now l.place l.savings.items
