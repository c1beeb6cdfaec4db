use Rattle.std.proofs.Common.{◌≡◌, ◌++◌, drop, take}
use Rattle.answers.proofs.put_places.Given as goal

abbrev pub invariant-loop-i : goal.invariant-loop-i
invariant-loop-i l = l.lent ≡ take l.i l.places ++ drop l.i l.initial.lent
