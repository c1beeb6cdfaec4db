use Prim.Native.Nat.{◌+◌, ◌-◌}
use lib.ListN.{length}
use Rattle.std.specs.Prelude.{None, Some}
use Rattle.search.proofs.Extending.{Going}
use Rattle.search.proofs.Walk.+extend.Given as goal

-- the walk has come to a place
abbrev pub invariant-loop-next : goal.invariant-loop-next
invariant-loop-next l = Going l.self l.current l.from l.left l.initial.course l.pending l.next l.course

abbrev pub decreases-loop-next : goal.decreases-loop-next
decreases-loop-next l = elim l.next [ None ↦ 0 | Some place ↦ length l.self.tables.net.now.places + 1 - place ]

abbrev pub decreases-extend : goal.decreases-extend
decreases-extend l = l.left
