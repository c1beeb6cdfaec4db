use Rattle.std.proofs.Common.{ap}
use Rattle.model.specs.Network.{Line}
use Rattle.network.proofs.Network.weight.Goals as goal

pub returns : goal.returns
returns c = ap (λ (l : Line). l.weight) c.line.ensures
