use mathlib.Core.Path.{sym, ◌∙◌}
use native.Mathlib.Omega.{arith}
use Rattle.outage.proofs.Paths.{at-hv}
use Rattle.tree.proofs.Lengths.{closed-length}
use Rattle.outage.proofs.HVStations.{hv-none, hv-skip, hv-more, hv-all}
use Rattle.outage.proofs.Behind.sum.Goals as goal
use Rattle.outage.proofs.Behind.sum.Goals.{then-is_hv, else-is_hv}

pub loop-station-init : goal.loop-station-init
loop-station-init c = (omega (arith, c.station_count-station-end.ensures.count), omega arith, omega arith, hv-none c.args.net.now c.args.self.now c.requires.0)

pub station_sum-requires : goal.station_sum-requires
station_sum-requires c =
    let N = c.args.net.now in (
      record { read = c.requires.0; rules = c.requires.1; ends = c.requires.2 },
      at-hv N c.requires.0 c.requires.1 c.loop-station.station _ (sym c.is_hv.ensures ∙ c.if-is_hv.true) (omega (arith, closed-length N, c.line_count.ensures.count)),
    )

pub loop-station-preserved : goal.loop-station-preserved
loop-station-preserved c =
    let N = c.args.net.now in
    let h = c.loop-station in
    let i = sym c.is_hv.ensures in
    elim c.if-is_hv.branch [
      | then-is_hv w ↦ rw w.self-is (h.invariant.0, omega arith, omega arith, hv-more N c.args.self.now h.self h.station h.invariant.3 w.station_sum.new.self w.station_sum.ensures.1)
      | else-is_hv w ↦ rw w.self-is (h.invariant.0, omega arith, omega arith, hv-skip N c.args.self.now h.self h.station h.invariant.3 (i ∙ w.if-is_hv.false))
    ]

pub returns : goal.returns
returns c = let h = c.loop-station in hv-all c.args.net.now c.args.self.now c.requires.0 c.requires.1 h.self h.station (omega (arith, h.invariant.0)) h.invariant.3
