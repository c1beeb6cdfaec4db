use Rattle.std.proofs.Common.{ap, ◌∙◌}
use Rattle.model.specs.Network.{state_at}
use Rattle.model.specs.Paths.{state}
use Rattle.network.specs.View.{side_number}
use Rattle.network.proofs.Network.state.Goals as goal

pub returns : goal.returns
unfolding state
returns c = c.state.ensures ∙ ap (λ l. state_at l (side_number c.end.inside.side)) c.line.ensures ∙ ap (state c.args.self.now) c.end.view_is
