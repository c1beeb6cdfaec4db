use native.Mathlib.Omega.{arith}
use mathlib.Core.List.{[], ◌∷◌}
use Rattle.model.specs.Text.{printed_line}
use Rattle.text.proofs.Listing.{same_text, behind}
use Rattle.segment_rows.specs.Rows.{entry_rows}
use Rattle.segment_rows.proofs.Entries.{table_is}
use Rattle.segment_rows.proofs.put_table.Goals as goal

pub overflow_add-result : goal.overflow_add-result
overflow_add-result c = omega (arith, c.put_entries.ensures.1, c.put_line-at.ensures.short, c.requires.1)

pub returns : goal.returns
returns c =
    let e = c.put_entries in
    let n = c.args.entries in
    let table = c.args.table.now in
    same_text _ _ _ _ _ (table_is n table) (behind (printed_line 71 (n ∷ [])) (entry_rows n table) c.args.out.now c.put_line-at.new.buf e.new.out _ _ c.put_line-at.ensures.written e.ensures.0)
