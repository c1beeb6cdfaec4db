use Rattle.network.specs.Changed.{line_with_state}
use Rattle.network.proofs.Line.with_state.Goals as goal

pub returns-in-One : goal.returns-in-One
unfolding line_with_state
returns-in-One c = rw c.in-One.is

pub returns-in-Two : goal.returns-in-Two
unfolding line_with_state
returns-in-Two c = rw c.in-Two.is
