use Prim.Native.Nat.{◌+◌, ◌-◌, ◌*◌, ◌≤◌}
use mathlib.Core.Path.{◌≡◌}
use lib.ListN.{length}
use Rattle.model.specs.Paths.{line_numbers}
use Rattle.text.proofs.Listing.{Listed}
use Rattle.segments.specs.Entries.{entries_of}
use Rattle.segments.proofs.Entries.put_lines.Given as goal

abbrev pub invariant-loop-line : goal.invariant-loop-line
invariant-loop-line v =
    (v.line-end ≡ length v.self.net.now.lines + 1) × (1 ≤ v.line) × (v.line ≤ v.line-end) × (v.at ≤ 10 * (v.line - 1))
    × Listed (λ l. entries_of v.self.net.now l) (line_numbers v.self.net.now) v.initial.table v.table v.at (v.line - 1)

abbrev pub decreases-loop-line : goal.decreases-loop-line
decreases-loop-line l = l.line-end - l.line
