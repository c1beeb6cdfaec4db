use Rattle.theory.specs.Refusals.{ceiling-bounded}
use Rattle.jubaxendi.proofs.jubaxendi_ceiling.Goals as goal

pub hand_over-requires : goal.hand_over-requires
hand_over-requires c = rw c.ceiling.ensures (ceiling-bounded _ _)
