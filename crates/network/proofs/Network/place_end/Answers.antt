use Rattle.std.proofs.Common.{ap}
use Rattle.network.specs.There.{place_end}
use Rattle.network.proofs.Network.place_end.Goals as goal

pub returns : goal.returns
returns c = ap place_end c.place-found.ensures
