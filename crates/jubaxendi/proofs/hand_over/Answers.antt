use Rattle.std.proofs.Common.{refl}
use Rattle.model.specs.Calls.{written}
use Rattle.jubaxendi.specs.Numbers.{returned, answer_leaves}
use Rattle.jubaxendi.proofs.hand_over.Goals as goal

pub returns-in-Err-clause-value : goal.returns-in-Err-clause-value
unfolding returned
returns-in-Err-clause-value g c = rw c.in-Err.is c.refusal.ensures

pub returns-in-Err-clause-answer_after : goal.returns-in-Err-clause-answer_after
unfolding answer_leaves written
returns-in-Err-clause-answer_after g c = rw c.in-Err.is refl

pub returns-in-Ok-clause-value : goal.returns-in-Ok-clause-value
unfolding returned
returns-in-Ok-clause-value g c = rw c.in-Ok.is refl

pub returns-in-Ok-clause-answer_after : goal.returns-in-Ok-clause-answer_after
unfolding answer_leaves written
returns-in-Ok-clause-answer_after g c = rw c.in-Ok.is c.put.ensures
