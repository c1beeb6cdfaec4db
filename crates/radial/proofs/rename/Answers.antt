use Rattle.std.proofs.Common.{arith}
use Rattle.radial.proofs.rename.Goals as goal

pub returns : goal.returns
returns c = λ k l. c.loop-label.invariant.1.done k (omega arith)
