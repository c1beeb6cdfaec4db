use Prim.Native.Nat.{◌-◌}
use native.Mathlib.Omega.{arith}
use lib.ListN.{length-take, length-drop}
use Rattle.model.specs.Paths.{line_numbers}
use Rattle.model.specs.Text.{line_f}
use Rattle.theory.specs.Sizes.{read-sized}
use Rattle.text.proofs.Listing.{listed_at, listed-none, listed_more, listed-all, lines-length, line-is}
use Rattle.report.proofs.put_faults.Goals as goal

pub overflow_add-line-end : goal.overflow_add-line-end
overflow_add-line-end c = omega (arith, (read-sized _ c.requires.ready.0.read).line_count)

pub loop-line-init : goal.loop-line-init
loop-line-init c = (omega arith, omega arith, omega arith, omega arith, listed-none _ _ _)

pub put_fault-at-requires : goal.put_fault-at-requires
put_fault-at-requires c =
    record { ready = c.requires.ready; there = (omega arith, omega arith); room = simp (length-take, length-drop) (omega (arith, (read-sized _ c.requires.ready.0.read).line_count)) }

pub loop-line-preserved : goal.loop-line-preserved
loop-line-preserved c =
    let N = c.args.net.now in
    let g = c.loop-line in (
      g.invariant.0,
      omega arith,
      omega arith,
      omega arith,
      listed_at (omega arith) (listed_more (λ l. line_f N l) (line_numbers N) c.args.buf.now g.buf _ g.at (g.line - 1) g.line c.put_fault-at.result (omega (arith, lines-length N)) (omega (arith, line-is N (g.line - 1) (omega arith))) (omega (arith, (read-sized N c.requires.ready.0.read).line_count)) g.invariant.4 c.put_fault-at.ensures.written),
    )

pub returns : goal.returns
returns c =
    let N = c.args.net.now in
    let g = c.loop-line in
    record { written = listed-all _ _ _ _ _ (g.line - 1) (omega (arith, lines-length N)) g.invariant.4; short = omega (arith, (read-sized N c.requires.ready.0.read).line_count) }
