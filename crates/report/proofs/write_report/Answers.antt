use Rattle.std.specs.Prelude.{ℕ, List, ◌++◌}
use Rattle.model.specs.Text.{line_a, report_text}
use Rattle.model.specs.Commands.{plan_text}
use Rattle.text.proofs.Listing.{same_text, behind}
use Rattle.report.specs.Parts.{fault_lines}
use Rattle.report.proofs.Whole.{report-is}
use Rattle.report.proofs.write_report.Goals as goal

pub returns : goal.returns
returns c =
    let N = c.args.net.now in
    let b = c.args.buf.now in
    let A : List ℕ = line_a N in
    let F : List ℕ = fault_lines N in
    let t2 = behind A F b c.put_totals-at.new.buf c.put_faults-at.new.buf _ _ c.put_totals-at.ensures.written c.put_faults-at.ensures.written in
    let t3 = behind (A ++ F) (plan_text N) b _ c.write_plan.new.buf _ _ t2 c.write_plan.ensures.written in
    same_text ((A ++ F) ++ plan_text N) (report_text N) b _ _ (report-is N) t3
