use mathlib.Core.Path.{◌≡◌}
use Prim.Native.Nat.{◌+◌, ◌*◌, ◌-◌, ◌^◌, ◌≤◌}
use Rattle.model.specs.Ceiling.{set_count}
use Rattle.binomials.proofs.Entries.{columns}
use Rattle.binomials.proofs.set_count.Given as goal

abbrev pub invariant-loop-column : goal.invariant-loop-column
invariant-loop-column l = (l.column-end ≡ l.additions + 1) × (l.column ≤ l.column-end) × (l.sum ≤ l.column * 2 ^ 49) × (l.sum + columns l.places l.column l.column-end ≡ set_count l.places l.additions)

abbrev pub decreases-loop-column : goal.decreases-loop-column
decreases-loop-column l = l.column-end - l.column
