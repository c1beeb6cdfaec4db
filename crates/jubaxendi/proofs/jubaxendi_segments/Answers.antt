use Rattle.theory.specs.Refusals.{segments-bounded}
use Rattle.jubaxendi.proofs.jubaxendi_segments.Goals as goal

pub hand_over-requires : goal.hand_over-requires
hand_over-requires c = rw c.segments.ensures.result_value (segments-bounded _ _)
