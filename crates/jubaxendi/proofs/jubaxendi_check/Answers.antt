use Rattle.theory.specs.Refusals.{checked-bounded}
use Rattle.jubaxendi.proofs.jubaxendi_check.Goals as goal

pub hand_over-requires : goal.hand_over-requires
hand_over-requires c = rw c.check.ensures (checked-bounded _)
