use Prim.Native.Nat.{◌+◌, ◌≤◌}
use mathlib.Core.Path.{◌≡◌}
use lib.ListN.{length}
use Rattle.starts.proofs.FirstOutlook.{Set}
use Rattle.starts.proofs.Outlook.start.Given as goal

abbrev pub invariant-loop-place : goal.invariant-loop-place
invariant-loop-place l = (l.place-end ≡ length l.routes.net.now.places + 1) × (1 ≤ l.place) × (l.place ≤ l.place-end) × Set l.routes.net.now l.self l.place
