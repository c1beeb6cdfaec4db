use Rattle.std.proofs.Common.{ap, ◌∙◌}
use Rattle.model.specs.Lists.{renumbered}
use Rattle.model.specs.Network.{Line}
use Rattle.model.specs.Paths.{End}
use Rattle.network.specs.View.{state_number, side_number}
use Rattle.network.specs.Changed.{with_lines, with_line, line_with_state, with_state}
use Rattle.network.proofs.Network.set_state.Goals as goal

pub returns : goal.returns
unfolding with_line with_state
returns c =
    let N = c.args.self.now in
    let i = c.end.inside in
    let s = state_number c.args.state in
    c.set_line.ensures
    ∙ ap (λ (l : Line). with_lines N (renumbered N.lines i.line l)) (c.with_state-new.ensures ∙ ap (line_with_state (side_number i.side) s) c.line.ensures)
    ∙ ap (λ (e : End). with_state N e.line e.side s) c.end.view_is
