use Rattle.tree.proofs.Following.{Following}
use Rattle.tree.proofs.Supply.append.Given as goal

-- The lines of the ends before are noted.
abbrev pub invariant-loop-end : goal.invariant-loop-end
invariant-loop-end l = (goal.iterator-loop-end).can_next l.end-iterator × (goal.iterator-loop-end).is_finite l.end-iterator × Following l.initial.self l.fed l.fn.ends l.self l.end-iterator
