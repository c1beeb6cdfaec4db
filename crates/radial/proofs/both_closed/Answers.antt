use mathlib.Core.Path.{sym, ap, ◌∙◌}
use mathlib.Core.Bool.{not}
use Rattle.model.specs.Paths.{is_open}
use Rattle.radial.proofs.both_closed.Goals as goal

pub returns-then-not-is_open : goal.returns-then-not-is_open
returns-then-not-is_open c = rw (sym c.is_open.ensures ∙ c.if-not-is_open.true) (ap not (c.is_open-then-not-is_open.ensures ∙ ap (is_open c.args.net.now) c.other-two.ensures))

pub returns-else-not-is_open : goal.returns-else-not-is_open
returns-else-not-is_open c = rw (sym c.is_open.ensures ∙ c.if-not-is_open.false) (ap not c.if-not-is_open.false)
