use Rattle.theory.specs.Refusals.{impact-bounded}
use Rattle.jubaxendi.proofs.jubaxendi_impact.Goals as goal

pub hand_over-requires : goal.hand_over-requires
hand_over-requires c = rw c.impact.ensures (impact-bounded _ _)
