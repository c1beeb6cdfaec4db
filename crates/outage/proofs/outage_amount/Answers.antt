use native.Mathlib.Omega.{arith}
use mathlib.Core.Path.{◌∙◌}
use Rattle.theory.specs.Sizes.{outage_amount-size}
use Rattle.outage.proofs.Totals.{amount-is}
use Rattle.outage.proofs.outage_amount.Goals as goal

pub mul-requires : goal.mul-requires
mul-requires c =
    let N = c.args.net.now in
    let e = amount-is N c.args.line c.weight.result c.impact.result c.weight.ensures (c.impact.ensures ∙ c.requires.2) in
    omega (arith, e, outage_amount-size N c.requires.1 c.args.line)

pub returns : goal.returns
returns c = c.mul.ensures ∙ amount-is c.args.net.now c.args.line c.weight.result c.impact.result c.weight.ensures (c.impact.ensures ∙ c.requires.2)
