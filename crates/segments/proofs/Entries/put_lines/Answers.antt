use Prim.Native.Nat.{◌-◌}
use mathlib.Core.Path.{ap, ◌∙◌}
use native.Mathlib.Omega.{arith}
use lib.ListN.{length, length-take, length-drop}
use Rattle.model.specs.Paths.{line_numbers}
use Rattle.theory.specs.Segments.{table-length}
use Rattle.text.specs.Over.{over}
use Rattle.text.proofs.Listing.{listed_at, listed-none, listed_more, listed-all, lines-length, line-is}
use Rattle.segments.specs.Entries.{entries_of}
use Rattle.segments.proofs.Entry.{few-lines}
use Rattle.segments.proofs.Table.{table-lines}
use Rattle.segments.proofs.Entries.put_lines.Goals as goal

pub overflow_add-line-end : goal.overflow_add-line-end
overflow_add-line-end c = omega (arith, few-lines c.args.self.now.summed)

pub loop-line-init : goal.loop-line-init
loop-line-init c = (omega arith, omega arith, omega arith, omega arith, listed-none _ _ _)

pub put_ends-at-requires : goal.put_ends-at-requires
put_ends-at-requires c =
    let N = c.args.self.now.net.now in
    record { there = record { low = omega arith; high = omega arith }; room = simp (length-take, length-drop) (omega (arith, few-lines c.args.self.now.summed)) }

pub loop-line-preserved : goal.loop-line-preserved
loop-line-preserved c =
    let N = c.args.self.now.net.now in
    let g = c.loop-line in
    (g.invariant.0, omega arith, omega arith, omega arith, listed_at (omega arith) (listed_more (λ l. entries_of N l) (line_numbers N) c.args.table.now g.table _ g.at (g.line - 1) g.line c.put_ends-at.result (omega (arith, lines-length N)) (omega (arith, line-is N (g.line - 1) (omega arith))) (omega (arith, few-lines c.args.self.now.summed)) g.invariant.4 c.put_ends-at.ensures.written))

pub returns : goal.returns
returns c =
    let N = c.args.self.now.net.now in
    let g = c.loop-line in
    let t = listed-all (λ l. entries_of N l) (line_numbers N) c.args.table.now g.table g.at (g.line - 1) (omega (arith, lines-length N)) g.invariant.4 in
    record { count = omega (arith, t.0, ap length (table-lines N), table-length N); written = t.1 ∙ ap (λ l. over l c.args.table.now) (table-lines N) }
