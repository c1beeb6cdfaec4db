use mathlib.Core.Path.{sym, ap, ◌∙◌}
use Rattle.model.specs.Paths.{is_open}
use Rattle.model.specs.Rules.{both_open}
use Rattle.end_rules.proofs.both_open.Goals as goal

pub returns-then-is_open : goal.returns-then-is_open
unfolding both_open
returns-then-is_open c = rw (sym c.is_open.ensures ∙ c.if-is_open.true) (c.is_open-then-is_open.ensures ∙ ap (is_open c.args.net.now) c.other-two.ensures)

pub returns-else-is_open : goal.returns-else-is_open
unfolding both_open
returns-else-is_open c = rw (sym c.is_open.ensures ∙ c.if-is_open.false) c.if-is_open.false
