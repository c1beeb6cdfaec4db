use Rattle.std.proofs.Common.{ap}
use Rattle.model.specs.Network.{Station}
use Rattle.model.specs.Paths.{customers_of}
use Rattle.network.proofs.Network.customers.Goals as goal

pub returns : goal.returns
unfolding customers_of
returns c = ap (λ (s : Station). s.customers) c.station.ensures
