use Rattle.printing.proofs.Lengths.{read-printed}
use Rattle.printing.proofs.run.Goals as goal

pub returns-in-Ok-print-clause-printed : goal.returns-in-Ok-print-clause-printed
returns-in-Ok-print-clause-printed g c = read-printed _ _ _ _ _ _ c.requires c.in-Ok.ensures.all c.in-Ok-print.ensures.printed
