use Rattle.std.proofs.Common.{refl}
use Rattle.network.specs.Changed.{with_adds, head_with_adds}
use Rattle.network.proofs.Network.set_adds.Goals as goal

pub returns : goal.returns
unfolding with_adds head_with_adds
returns c = rw (← c.self.view_is) refl
