use Rattle.bounds.proofs.Columns.{all_zero}
use Rattle.bounds.proofs.Bounds.new.Goals as goal

pub returns : goal.returns
returns c = λ left passed. all_zero 17 65 left passed
