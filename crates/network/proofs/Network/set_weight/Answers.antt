use Rattle.std.proofs.Common.{ap, ◌∙◌}
use Rattle.model.specs.Lists.{renumbered}
use Rattle.model.specs.Network.{Line}
use Rattle.network.specs.Changed.{with_lines, with_line, line_with_weight, with_weight}
use Rattle.network.proofs.Network.set_weight.Goals as goal

pub returns : goal.returns
unfolding with_line with_weight
returns c =
    let a = c.args in
    c.set_line.ensures
    ∙ ap (λ (l : Line). with_lines a.self.now (renumbered a.self.now.lines a.line l)) (c.with_weight-new.ensures ∙ ap (line_with_weight a.weight) c.line.ensures)
