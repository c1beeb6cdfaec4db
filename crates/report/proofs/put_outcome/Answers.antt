use Rattle.std.proofs.Common.{ap, ◌∙◌, arith, ℕ}
use mathlib.Core.List.{[], ◌∷◌}
use Rattle.model.specs.Text.{printed_line}
use Rattle.text.proofs.Listing.{same_text}
use Rattle.report.proofs.Lines.{outcome-is}
use Rattle.report.specs.Parts.{finished_number}
use Rattle.report.proofs.put_outcome.Goals as goal

pub returns : goal.returns
returns c =
    let p = c.args.plan.now in
    let counted = ap (λ (n : ℕ). printed_line 67 (finished_number p.spent ∷ p.visits ∷ n ∷ c.args.best ∷ [])) c.len.ensures.value in
    record { written = same_text _ _ _ _ _ (outcome-is _ _ _ _ _ c.finished_number-finished.ensures ∙ counted) c.put_line.ensures.written; short = omega arith }
