use mathlib.Core.Path.{◌≡◌}
use lib.ListN.{length}
use Rattle.starts.specs.declared.Outlook.{Outlook}
use Rattle.prospects.specs.Changes.{Changed}
use Rattle.prospects.proofs.Prospects.leave.Given as goal

abbrev pub invariant-loop-place : goal.invariant-loop-place
invariant-loop-place l =
    (l.self.kept ≡ l.initial.self.kept)
    × ((old : Outlook) → Changed l.places l.size 0 (length l.places) old l.initial.self.outlook l.self.kept → Changed l.places l.size l.place-index (length l.places) old l.self.outlook l.self.kept)
