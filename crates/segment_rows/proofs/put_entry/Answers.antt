use Prim.Native.Nat.{ℕ, ◌+◌, ◌*◌, ◌-◌}
use mathlib.Core.Path.{ap}
use mathlib.Core.List.{List}
use native.Mathlib.Omega.{arith}
use lib.ListN.{take, drop}
use Rattle.model.specs.Text.{printed_line}
use Rattle.text.proofs.Listing.{same_text}
use Rattle.segment_rows.specs.Rows.{entry_row}
use Rattle.segment_rows.proofs.put_entry.Goals as goal

pub returns : goal.returns
unfolding entry_row
returns c =
    let part : List ℕ = drop (5 * c.args.i) c.args.table.now in
    (same_text _ (entry_row c.args.table.now c.args.i) c.args.out.now _ _ (ap (λ (n : ℕ). printed_line 84 (take n part)) {x = 5 * c.args.i + 5 - 5 * c.args.i} {y = 5} (omega arith)) c.put_line.ensures.written, omega arith)
