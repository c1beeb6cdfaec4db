use Rattle.theory.specs.Refusals.{report-bounded}
use Rattle.jubaxendi.proofs.jubaxendi_report.Goals as goal

pub hand_over-requires : goal.hand_over-requires
hand_over-requires c = rw c.report.ensures.result_value (report-bounded _ _)
