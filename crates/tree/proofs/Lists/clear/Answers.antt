use Rattle.std.specs.Prelude.{None}
use Rattle.theory.specs.Gathering.{always}
use Rattle.tree.proofs.Lists.clear.Goals as goal

pub returns : goal.returns
returns c = always None 512
