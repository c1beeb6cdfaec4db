use Rattle.std.proofs.Common.{◌+◌, ◌-◌, length}
use Rattle.search.proofs.Seeking.{Passed}
use Rattle.search.proofs.Walk.next_place.Given as goal

abbrev pub invariant-loop-walk : goal.invariant-loop-walk
invariant-loop-walk l = Passed l.self.tables.net.now l.course.members.items l.from l.left l.course.progress l.place

abbrev pub decreases-loop-walk : goal.decreases-loop-walk
decreases-loop-walk l = length l.self.tables.net.now.places + 1 - l.place
