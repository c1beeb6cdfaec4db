use mathlib.Core.Path.{sym, ap, ◌∙◌}
use Rattle.model.specs.Rules.{plain_at_hv, unprotected}
use Rattle.end_rules.proofs.is_unprotected.Goals as goal

pub returns-then-is_plain_at_hv : goal.returns-then-is_plain_at_hv
unfolding unprotected
returns-then-is_plain_at_hv c = rw (sym c.is_plain_at_hv.ensures ∙ c.if-is_plain_at_hv.true) c.if-is_plain_at_hv.true

pub returns-else-is_plain_at_hv : goal.returns-else-is_plain_at_hv
unfolding unprotected
returns-else-is_plain_at_hv c = rw (sym c.is_plain_at_hv.ensures ∙ c.if-is_plain_at_hv.false) (c.is_plain_at_hv-else-is_plain_at_hv.ensures ∙ ap (plain_at_hv c.args.net.now) c.other-two.ensures)
