use mathlib.Core.Path.{◌∙◌}
use native.Mathlib.Omega.{arith}
use Rattle.network.specs.There.{LineThere}
use Rattle.tree.proofs.Fitting.{line_held}
use Rattle.outage.proofs.Breakers.{trip-there, trip-impact, before-more}
use Rattle.outage.proofs.Impacts.fill.Goals as goal

pub customers-requires : goal.customers-requires
customers-requires c =
    let d = c.requires.0 in
    let h = c.loop-line in
    line_held _ d (trip-there _ d c.requires.1 h.line (record { low = omega arith; high = omega (arith, h.invariant.0) }) c.args.paths.now c.requires.2 c.trip_line.result c.trip_line.ensures)

pub loop-line-preserved : goal.loop-line-preserved
loop-line-preserved c =
    let d = c.requires.0 in
    let h = c.loop-line in
    let i : LineThere c.args.net.now h.line = record { low = omega arith; high = omega (arith, h.invariant.0) } in (
      h.invariant.0,
      omega arith,
      omega arith,
      before-more _ h.self c.set.new.self h.line c.customers.result c.set.ensures.line c.set.ensures.others
          (c.customers.ensures ∙ trip-impact _ d c.requires.1 h.line i c.args.paths.now c.requires.2 c.trip_line.result c.trip_line.ensures c.args.behind.now c.requires.3) h.invariant.3,
    )

pub returns : goal.returns
returns c = let h = c.loop-line in λ l i. h.invariant.3 l i.low (omega (arith, i.high, h.invariant.0))
