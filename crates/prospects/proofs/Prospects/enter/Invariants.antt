use lib.ListN.{length}
use Rattle.relations.specs.Related.{later_in}
use Rattle.prospects.proofs.Entering.{Written}
use Rattle.prospects.proofs.Prospects.enter.Given as goal

abbrev pub invariant-loop-place : goal.invariant-loop-place
invariant-loop-place l = Written l.tables.net.now (later_in l.tables.relations.now l.last) l.members (length l.members) l.initial.self.outlook l.initial.self.kept l.place-index l.self.outlook l.self.kept
