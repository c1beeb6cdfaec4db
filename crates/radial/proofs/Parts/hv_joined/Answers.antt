use mathlib.Core.Path.{refl, sym, ◌∙◌}
use native.Mathlib.Omega.{arith}
use mathlib.Core.Bool.{false}
use lib.ListN.{replicate}
use Rattle.theory.specs.Gathering.{always}
use Rattle.radial.specs.Stations.{is_read, marked_start, marked-skip, marked-set, apart-start, apart-skip, apart_next, marked-joined, apart-joined}
use Rattle.radial.proofs.Parts.hv_joined.Goals as goal
use Rattle.radial.proofs.Parts.hv_joined.Goals.{then-is_hv+else-marks-x, else-is_hv}

pub loop-station-init : goal.loop-station-init
loop-station-init c =
    let d = is_read c.args.self.now.holds in
    (omega arith, omega arith, omega arith, marked_start d _ (replicate 513 false) refl (always false 513), apart-start d _)

pub label-x-requires : goal.label-x-requires
label-x-requires c = record { low = omega arith; high = omega arith }

pub returns-then-marks-x : goal.returns-then-marks-x
returns-then-marks-x c =
    marked-joined c.args.self.now.holds c.loop-station.invariant.3 c.label-x.ensures.0 (sym c.is_hv.ensures ∙ c.if-is_hv.true) c.if-marks-x.true

pub loop-station-preserved : goal.loop-station-preserved
loop-station-preserved c =
    let i = c.loop-station.invariant in
    let e = sym c.is_hv.ensures in
    elim c.if-is_hv.branch [
      | then-is_hv+else-marks-x w ↦ rw w.marks-is (i.0, omega arith, omega arith, marked-set i.3 w.label-x.ensures.0 (e ∙ w.if-is_hv.true) w.label-x.ensures.1, apart_next i.3 w.label-x.ensures.0 i.4 w.if-marks-x.false)
      | else-is_hv w ↦ rw w.marks-is (i.0, omega arith, omega arith, marked-skip i.3 (e ∙ w.if-is_hv.false), apart-skip i.4 (e ∙ w.if-is_hv.false))
    ]

pub returns : goal.returns
returns c =
    apart-joined c.args.self.now.holds (omega arith) c.loop-station.invariant.4
