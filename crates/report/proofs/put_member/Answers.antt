use mathlib.Core.Path.{ap, ◌∙◌}
use native.Mathlib.Omega.{arith}
use Rattle.model.specs.Paths.{End}
use Rattle.text.proofs.Listing.{same_text}
use Rattle.report.proofs.Lines.{line_b-is}
use Rattle.report.proofs.put_member.Goals as goal

pub returns : goal.returns
returns c =
    let N = c.args.net.now in
    let e = c.end.view_is ∙ c.place_end-end.ensures in
    record { written = same_text _ _ _ _ _ (line_b-is N c.args.place _ _ (ap (λ (f : End). f.line) e) (c.number-side.ensures ∙ ap (λ (f : End). f.side) e)) c.put_line.ensures.written; short = omega arith }
