use Rattle.std.proofs.Common.{sym, ◌∙◌, arith}
use Rattle.tree.proofs.Queueing.{queue-start, hv-skip, hv-room, hv-add, hv-end}
use Rattle.tree.proofs.Supply.start.Goals as goal
use Rattle.tree.proofs.Supply.start.Goals.{then-is_hv, else-is_hv}

pub loop-station-init : goal.loop-station-init
loop-station-init c = (omega (arith, c.station_count-station-end.ensures.count), omega arith, omega arith, queue-start _ c.requires.0 c.requires.1 c.clear.new.self c.clear.ensures.0 c.clear.ensures.1)

pub closed_ends-requires : goal.closed_ends-requires
closed_ends-requires c = let h = c.loop-station in c.requires.2.has h.station (record { low = omega arith; high = omega (arith, h.invariant.0) })

pub append-requires : goal.append-requires
append-requires c =
    let h = c.loop-station in
    hv-room _ c.requires.0 c.requires.1 h.station h.self h.invariant.3 (sym c.is_hv.ensures ∙ c.if-is_hv.true) _
    (c.closed_ends.ensures ∙ c.requires.2.ends h.station (record { low = omega arith; high = omega (arith, h.invariant.0) }))

pub loop-station-preserved : goal.loop-station-preserved
loop-station-preserved c =
    let h = c.loop-station in
    let e = sym c.is_hv.ensures in
    elim c.if-is_hv.branch [
      | then-is_hv w ↦ rw w.self-is (
        h.invariant.0,
        omega arith,
        omega arith,
        hv-add _ c.requires.0 c.requires.1 h.station h.self h.invariant.3 (e ∙ w.if-is_hv.true) _
            (w.closed_ends.ensures ∙ c.requires.2.ends h.station (record { low = omega arith; high = omega (arith, h.invariant.0) })) _ w.append.ensures,
      )
      | else-is_hv w ↦ rw w.self-is (h.invariant.0, omega arith, omega arith, hv-skip _ c.requires.0 c.requires.1 h.station h.self h.invariant.3 (e ∙ w.if-is_hv.false))
    ]

pub returns : goal.returns
returns c = let h = c.loop-station in hv-end _ c.requires.0 c.requires.1 h.station h.self h.invariant.3 (omega (arith, h.invariant.0))
