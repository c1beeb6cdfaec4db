use Rattle.std.proofs.Common.{◌+◌, refl, ◌∙◌, arith, length-set}
use Rattle.radial.specs.Stations.{number_step}
use Rattle.radial.proofs.numbered.Goals as goal

pub loop-i-init : goal.loop-i-init
loop-i-init c = (refl, λ k l. absurd (omega arith))

pub loop-i-preserved : goal.loop-i-preserved
loop-i-preserved c =
    let h = c.loop-i in
    (length-set h.label-items h.i (h.i + 1) ∙ h.invariant.0, number_step h.label-items h.i (omega (arith, h.invariant.0)) h.invariant.1)

pub returns : goal.returns
returns c = λ k l. c.loop-i.invariant.1 k (omega arith)
