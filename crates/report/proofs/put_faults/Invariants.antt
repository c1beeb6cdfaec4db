use Prim.Native.Nat.{◌+◌, ◌-◌, ◌*◌, ◌≤◌}
use mathlib.Core.Path.{◌≡◌}
use lib.ListN.{length}
use Rattle.model.specs.Paths.{line_numbers}
use Rattle.model.specs.Text.{line_f}
use Rattle.text.proofs.Listing.{Listed}
use Rattle.report.proofs.put_faults.Given as goal

abbrev pub invariant-loop-line : goal.invariant-loop-line
invariant-loop-line v =
    (v.line-end ≡ length v.net.lines + 1) × (1 ≤ v.line) × (v.line ≤ v.line-end) × (v.at ≤ 30 * (v.line - 1))
    × Listed (λ l. line_f v.net l) (line_numbers v.net) v.initial.buf v.buf v.at (v.line - 1)
