use mathlib.Core.Path.{refl, sym, ◌∙◌, subst}
use native.Mathlib.Omega.{arith}
use mathlib.Core.Bool.{false}
use lib.ListN.{replicate}
use Rattle.theory.specs.Gathering.{always}
use Rattle.radial.specs.Stations.{Marked, is_read, marked_start, marked-skip, marked-set}
use Rattle.radial.proofs.Parts.hv_labels.Goals as goal
use Rattle.radial.proofs.Parts.hv_labels.Goals.{then-is_hv, else-is_hv}

pub loop-station-init : goal.loop-station-init
loop-station-init c = (omega arith, omega arith, omega arith, marked_start (is_read c.args.self.now.holds) _ (replicate 513 false) refl (always false 513))

pub label-requires : goal.label-requires
label-requires c = record { low = omega arith; high = omega arith }

pub loop-station-preserved : goal.loop-station-preserved
loop-station-preserved c =
    let i = c.loop-station.invariant in
    let e = sym c.is_hv.ensures in
    elim c.if-is_hv.branch [
      | then-is_hv w ↦ rw w.marks-is (i.0, omega arith, omega arith, marked-set i.3 w.label.ensures.0 (e ∙ w.if-is_hv.true) w.label.ensures.1)
      | else-is_hv w ↦ rw w.marks-is (i.0, omega arith, omega arith, marked-skip i.3 (e ∙ w.if-is_hv.false))
    ]

pub returns : goal.returns
returns c =
    let a = c.args in
    let h = c.loop-station in
    subst (λ n. Marked a.self.now.net.now a.self.now.labels n h.marks) (omega arith) h.invariant.3
