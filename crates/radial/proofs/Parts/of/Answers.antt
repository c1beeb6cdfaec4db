use mathlib.Core.Path.{sym, ap, ◌∙◌}
use Rattle.model.specs.Paths.{station_at}
use native.Mathlib.Omega.{arith}
use Rattle.radial.specs.Run.{running-start, running-skip, running-return, running-join, running-end}
use Rattle.radial.proofs.Parts.of.Goals as goal
use Rattle.radial.proofs.Parts.of.Goals.{then-both_closed+else-joined, else-both_closed}

pub loop-line-init : goal.loop-line-init
loop-line-init c =
    (omega arith, running-start c.requires.read c.numbered-labels.result (omega arith) c.numbered-labels.ensures)

pub returns-then-joined-clause-returns : goal.returns-then-joined-clause-returns
returns-then-joined-clause-returns c =
    let h = c.loop-line in
    let q = sym c.both_closed.ensures ∙ c.if-both_closed.true in
    running-return c.requires.read c.requires.open h.invariant.1 (omega arith) q c.station_of.ensures.value (c.station_of-then-both_closed.ensures.value ∙ ap (station_at c.args.net.now) c.other-two.ensures) c.if-joined.true

pub loop-line-preserved : goal.loop-line-preserved
loop-line-preserved c =
    let h = c.loop-line in
    elim c.if-both_closed.branch [
      | then-both_closed+else-joined w ↦ rw w.labels-is (h.invariant.0, running-join c.requires.read c.requires.open h.invariant.1 (omega arith) (sym c.both_closed.ensures ∙ w.if-both_closed.true) w.station_of.ensures.value (w.station_of-then-both_closed.ensures.value ∙ ap (station_at c.args.net.now) w.other-two.ensures) w.if-joined.false (omega arith) w.rename.ensures)
      | else-both_closed w ↦ rw w.labels-is (h.invariant.0, running-skip c.requires.read c.requires.open h.invariant.1 (omega arith) (sym c.both_closed.ensures ∙ w.if-both_closed.false))
    ]

pub returns-clause-returns : goal.returns-clause-returns
returns-clause-returns c = (running-end c.requires.read (omega arith) c.loop-line.invariant.1).0

pub invariant_of-result : goal.invariant_of-result
invariant_of-result c = record { holds = ∣ record { read = c.requires.read; labelled = (running-end c.requires.read (omega arith) c.loop-line.invariant.1).1 } ∣₁ }
