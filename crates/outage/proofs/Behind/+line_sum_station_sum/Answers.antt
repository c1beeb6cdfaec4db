use Prim.Native.Nat.{◌-◌}
use mathlib.Core.Path.{◌≡◌, sym, ap, ◌∙◌, subst}
use native.Mathlib.Omega.{arith}
use lib.ListN.{length, set}
use Rattle.theory.specs.Behind.{far, line_sum}
use Rattle.tree.specs.Outwards.{near_end}
use Rattle.outage.specs.declared.Behind.{Behind}
use Rattle.tree.proofs.Fitting.{read_fits}
use Rattle.outage.specs.Below.{AtLine, Filled}
use Rattle.outage.proofs.Paths.{station-levels, at-line, leaves-near}
use Rattle.outage.proofs.Chains.{Part, part-start, part-sum, part_filled, part-skip, part-leaves, part-fits, part-more, station-size}
use Rattle.outage.proofs.Calls.{line-left, far-station, connected-sum, connected-filled, hanging-sum, hanging-filled}
use Rattle.outage.proofs.Behind.+line_sum_station_sum.Goals as goal
use Rattle.outage.proofs.Behind.+line_sum_station_sum.Goals.{line_sum-then-hangs, line_sum-else-hangs}

pub line_sum-overflow_sub-levels : goal.line_sum-overflow_sub-levels
line_sum-overflow_sub-levels t c = line-left c.requires.0 c.requires.1 _ (c.other-far.ensures ∙ ap far c.requires.2)

pub line_sum-station_sum-sum-requires : goal.line_sum-station_sum-sum-requires
line_sum-station_sum-sum-requires t c =
    let N = c.args.net.now in
    let y = c.requires.0 in
    let v = ap (λ e. e.line) c.near.view_is in
    let a = subst (λ l. AtLine N l c.args.levels) (sym v) c.requires.1 in
    let p = c.other-far.ensures ∙ ap far (c.requires.2 ∙ ap (near_end N) (sym v)) in
    (omega (arith, c.decreases, line-left y a _ p), (y, far-station y a _ p (sym c.hangs.ensures ∙ c.if-hangs.false) _ c.end_station.ensures))

pub line_sum-returns : goal.line_sum-returns
line_sum-returns t c =
    let N = c.args.net.now in
    let y = c.requires.0 in
    let v = ap (λ e. e.line) c.near.view_is in
    let l = c.near.inside.line in
    let a = subst (λ l. AtLine N l c.args.levels) (sym v) c.requires.1 in
    let p = c.other-far.ensures ∙ ap far (c.requires.2 ∙ ap (near_end N) (sym v)) in
    let own : near_end N l ≡ c.args.near = ap (near_end N) v ∙ sym c.requires.2 in
    let same : Filled N (λ d. d ≡ near_end N l) c.args.self.now (record { customers = set c.if-hangs.self.customers (l - 1) c.if-hangs.sum }) → Filled N (λ d. d ≡ c.args.near) c.args.self.now (record { customers = set c.if-hangs.self.customers (l - 1) c.if-hangs.sum }) =
    subst (λ x. Filled N (λ d. d ≡ x) c.args.self.now (record { customers = set c.if-hangs.self.customers (l - 1) c.if-hangs.sum })) own in
    elim c.if-hangs.branch [
      | line_sum-then-hangs w ↦ (
        w.sum-is ∙ hanging-sum y a _ p (sym c.hangs.ensures ∙ w.if-hangs.true) ∙ ap (line_sum N c.args.levels) own,
        same (subst (λ z. Filled N (λ d. d ≡ near_end N l) c.args.self.now (record { customers = set z (l - 1) c.if-hangs.sum })) (sym (ap (λ (b : Behind). b.customers) w.self-is))
            (subst (λ z. Filled N (λ d. d ≡ near_end N l) c.args.self.now (record { customers = set c.args.self.now.customers (l - 1) z })) (sym w.sum-is)
            (hanging-filled y a _ p (sym c.hangs.ensures ∙ w.if-hangs.true) c.args.self.now (omega (arith, (read_fits N y.read).lines))))),
      )
      | line_sum-else-hangs w ↦ (
        w.sum-is ∙ connected-sum y a _ p (sym c.hangs.ensures ∙ w.if-hangs.false) _ w.end_station.ensures w.station_sum-sum.result w.station_sum-sum.ensures.0 ∙ ap (line_sum N c.args.levels) own,
        same (subst (λ z. Filled N (λ d. d ≡ near_end N l) c.args.self.now (record { customers = set z (l - 1) c.if-hangs.sum })) (sym (ap (λ (b : Behind). b.customers) w.self-is))
            (subst (λ z. Filled N (λ d. d ≡ near_end N l) c.args.self.now (record { customers = set w.station_sum-sum.new.self.customers (l - 1) z })) (sym w.sum-is)
            (connected-filled y a _ p (sym c.hangs.ensures ∙ w.if-hangs.false) _ w.end_station.ensures w.station_sum-sum.result w.station_sum-sum.ensures.0 c.args.self.now w.station_sum-sum.new.self (omega (arith, (read_fits N y.read).lines, ap (λ (b : Behind). length b.customers) w.self-is)) w.station_sum-sum.ensures.1))),
      )
    ]

pub station_sum-closed_ends-end-items-requires : goal.station_sum-closed_ends-end-items-requires
station_sum-closed_ends-end-items-requires t c = c.requires.0.ends.has c.args.station (record { low = c.requires.1.low; high = c.requires.1.high })

pub station_sum-loop-end-init : goal.station_sum-loop-end-init
station_sum-loop-end-init t c =
    let y = c.requires.0 in (
      tt,
      tt,
      part-start y.read y.rules c.requires.1 c.args.self.now c.into_iter-end-iterator.result
          (c.into_iter-end-iterator.ensures.into_iter_gives ∙ c.closed_ends-end-items.ensures ∙ y.ends.ends c.args.station (record { low = c.requires.1.low; high = c.requires.1.high }))
          c.customers-sum.result c.customers-sum.ensures,
    )

pub station_sum-overflow_sub-levels : goal.station_sum-overflow_sub-levels
station_sum-overflow_sub-levels t c =
    let y = c.requires.0 in
    station-levels _ y.read y.rules c.args.came c.args.station c.args.levels c.requires.1

pub station_sum-line_sum-behind-requires : goal.station_sum-line_sum-behind-requires
station_sum-line_sum-behind-requires t c =
    let g = c.args in
    let y = c.requires.0 in
    let h = c.loop-end in
    let q = subst (λ es. Part g.net.now g.came g.station g.levels es h.sum g.self.now h.self) c.in-Some.ensures.steps h.invariant.2 in (
      omega (arith, c.decreases, station-levels _ y.read y.rules g.came g.station g.levels c.requires.1),
      (
        y,
        at-line _ y.read y.rules g.came g.station g.levels c.requires.1 c.in-Some.end (part-leaves q (sym c.is_of.ensures ∙ c.if-not-is_of.true)),
        sym (leaves-near _ y.read y.rules g.came g.station g.levels c.requires.1 c.in-Some.end (part-leaves q (sym c.is_of.ensures ∙ c.if-not-is_of.true))),
      ),
    )

pub station_sum-with_those_behind-sum-requires : goal.station_sum-with_those_behind-sum-requires
station_sum-with_those_behind-sum-requires t c =
    let g = c.args in
    let y = c.requires.0 in
    let h = c.loop-end in
    let o = sym c.is_of.ensures ∙ c.if-not-is_of.true in
    let q = subst (λ es. Part g.net.now g.came g.station g.levels es h.sum g.self.now h.self) c.in-Some.ensures.steps h.invariant.2 in
    omega (
      arith,
      c.line_sum-behind.ensures.0,
      part-fits q o,
      station-size _ y.read y.rules g.came g.station g.levels c.requires.1,
    )

pub station_sum-loop-end-preserved-then-not-is_of : goal.station_sum-loop-end-preserved-then-not-is_of
station_sum-loop-end-preserved-then-not-is_of t c =
    let g = c.args in
    let y = c.requires.0 in
    let h = c.loop-end in
    let o = sym c.is_of.ensures ∙ c.if-not-is_of.true in
    let q = subst (λ es. Part g.net.now g.came g.station g.levels es h.sum g.self.now h.self) c.in-Some.ensures.steps h.invariant.2 in
    let b = c.line_sum-behind in (
      tt,
      tt,
      subst (λ x. Part g.net.now g.came g.station g.levels c.next.new.self x g.self.now b.new.self) (sym c.with_those_behind-sum.ensures)
          (part-more q o b.result b.new.self b.ensures.0 b.ensures.1),
    )

pub station_sum-loop-end-preserved : goal.station_sum-loop-end-preserved
station_sum-loop-end-preserved t c =
    let g = c.args in
    let h = c.loop-end in
    let q = subst (λ es. Part g.net.now g.came g.station g.levels es h.sum g.self.now h.self) c.in-Some.ensures.steps h.invariant.2 in
    (tt, tt, part-skip q (sym c.is_of.ensures ∙ c.if-not-is_of.false))

pub station_sum-returns : goal.station_sum-returns
station_sum-returns t c =
    let g = c.args in
    let h = c.loop-end in
    let q = subst (λ es. Part g.net.now g.came g.station g.levels es h.sum g.self.now h.self) c.in-None.ensures.steps.0 h.invariant.2 in
    (part-sum q, part_filled q)
