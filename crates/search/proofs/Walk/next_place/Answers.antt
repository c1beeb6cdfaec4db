use mathlib.Core.Path.{sym, ◌∙◌}
use native.Mathlib.Omega.{arith}
use Rattle.search.proofs.Seeking.{passed-one, sought-none}
use Rattle.search.proofs.Walk.next_place.Goals as goal

pub loop-walk-smaller : goal.loop-walk-smaller
loop-walk-smaller c = omega (arith, (c.goes_on.ensures.promising c.loop-walk-test.true).high)

pub loop-walk-preserved : goal.loop-walk-preserved
loop-walk-preserved c =
    passed-one c.requires c.loop-walk.invariant (c.goes_on.ensures.promising c.loop-walk-test.true) (sym c.may_get.ensures ∙ c.if-may_get.false)

pub returns : goal.returns
returns c = sought-none c.requires c.loop-walk.invariant (c.goes_on.ensures.barren c.loop-walk-test.false)
