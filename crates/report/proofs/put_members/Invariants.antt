use Rattle.std.specs.Prelude.{◌-◌, ◌*◌, ◌≤◌, length}
use Rattle.model.specs.Text.{line_b}
use Rattle.text.proofs.Listing.{Listed}
use Rattle.report.proofs.put_members.Given as goal

abbrev pub invariant-loop-member : goal.invariant-loop-member
invariant-loop-member l = (l.member-index ≤ length l.members) × (l.at ≤ 44 * l.member-index) × Listed (λ p. line_b l.net p) l.members l.initial.buf l.buf l.at l.member-index
