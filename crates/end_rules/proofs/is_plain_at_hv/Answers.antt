use mathlib.Core.Path.{sym, ap, ◌∙◌}
use Rattle.model.specs.Paths.{is_hv}
use Rattle.model.specs.Rules.{plain_at_hv}
use Rattle.end_rules.proofs.is_plain_at_hv.Goals as goal

pub returns-then-is_plain : goal.returns-then-is_plain
unfolding plain_at_hv
returns-then-is_plain c =
    rw (sym c.is_plain.ensures ∙ c.if-is_plain.true)
    (c.is_hv.ensures ∙ ap (is_hv c.args.net.now) c.station_of.ensures.value)

pub returns-else-is_plain : goal.returns-else-is_plain
unfolding plain_at_hv
returns-else-is_plain c = rw (sym c.is_plain.ensures ∙ c.if-is_plain.false) c.if-is_plain.false
