use Rattle.std.proofs.Common.{ap}
use Rattle.model.specs.Network.{Place}
use Rattle.network.proofs.Network.place_line.Goals as goal

pub returns : goal.returns
returns c = ap (λ (p : Place). p.line) c.place.ensures
