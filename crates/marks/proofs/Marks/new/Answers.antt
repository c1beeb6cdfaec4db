use Rattle.std.specs.Prelude.{None}
use Rattle.tree.specs.Linked.{end_code}
use Rattle.theory.specs.Gathering.{always}
use Rattle.marks.proofs.Marks.new.Goals as goal

pub returns : goal.returns
returns c = λ e. always None 1537 (end_code e)
