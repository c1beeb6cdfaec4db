use Prim.Native.Nat.{◌-◌, ◌*◌, ◌≤◌}
use Rattle.model.specs.Lists.{numbers}
use Rattle.text.proofs.Listing.{Listed}
use Rattle.segment_rows.specs.Rows.{entry_row}
use Rattle.segment_rows.proofs.put_entries.Given as goal

abbrev pub invariant-loop-i : goal.invariant-loop-i
invariant-loop-i l = (l.i ≤ l.entries) × (l.at ≤ 107 * l.i) × Listed (λ k. entry_row l.table k) (numbers 0 l.entries) l.initial.out l.out l.at l.i

abbrev pub decreases-loop-i : goal.decreases-loop-i
decreases-loop-i l = l.entries - l.i
