use Prim.Native.Nat.{◌+◌}
use mathlib.Core.Path.{ap}
use native.Mathlib.Omega.{arith}
use Rattle.network.specs.There.{LineThere}
use lib.ListN.{length}
use Rattle.theory.specs.Sizes.{total_size, read-sized}
use Rattle.outage.proofs.Totals.{amounts_from, amounts-all, amounts-none, amounts-first}
use Rattle.outage.proofs.total_of.Goals as goal

pub loop-line-init : goal.loop-line-init
loop-line-init c =
    let N = c.args.net.now in
    let e = c.line_count-lines.ensures.count in
    (omega (arith, e), omega arith, omega arith, omega (arith, amounts-all N, ap (amounts_from N 1) {x = c.line_count-lines.result + 1} {y = length N.lines + 1} (omega (arith, e))))

pub outage_amount-requires : goal.outage_amount-requires
outage_amount-requires c =
    let N = c.args.net.now in
    let h = c.loop-line in
    let i : LineThere c.args.net.now h.line = record { low = omega arith; high = omega (arith, h.invariant.0) } in
    (i, read-sized N c.requires.0, c.requires.1 h.line i)

pub add_assign-requires : goal.add_assign-requires
add_assign-requires c =
    let N = c.args.net.now in
    let h = c.loop-line in
    omega (arith, c.outage_amount.ensures, h.invariant.3, amounts-first N h.line (c.line_count-lines.result + 1) (omega arith), total_size N (read-sized N c.requires.0))

pub loop-line-preserved : goal.loop-line-preserved
loop-line-preserved c =
    let N = c.args.net.now in
    let h = c.loop-line in
    (h.invariant.0, omega arith, omega arith, omega (arith, c.add_assign.ensures, c.outage_amount.ensures, h.invariant.3, amounts-first N h.line (c.line_count-lines.result + 1) (omega arith)))

pub returns : goal.returns
returns c =
    let N = c.args.net.now in
    let h = c.loop-line in
    omega (arith, h.invariant.3, amounts-none N h.line, ap (amounts_from N h.line) {x = c.line_count-lines.result + 1} {y = h.line} (omega arith))
