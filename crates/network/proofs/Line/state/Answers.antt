use Rattle.model.specs.Network.{state_at}
use Rattle.network.proofs.Line.state.Goals as goal

pub returns-in-One : goal.returns-in-One
unfolding state_at
returns-in-One c = rw c.in-One.is

pub returns-in-Two : goal.returns-in-Two
unfolding state_at
returns-in-Two c = rw c.in-Two.is
