use Rattle.theory.specs.Refusals.{totalled-bounded}
use Rattle.jubaxendi.proofs.jubaxendi_total.Goals as goal

pub hand_over-requires : goal.hand_over-requires
hand_over-requires c = rw c.total.ensures (totalled-bounded _)
