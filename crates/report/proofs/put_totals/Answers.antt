use native.Mathlib.Omega.{arith}
use Rattle.text.proofs.Listing.{same_text}
use Rattle.report.proofs.Lines.{line_a-is}
use Rattle.report.proofs.put_totals.Goals as goal

pub returns : goal.returns
returns c =
    let N = c.args.net.now in
    record { written = same_text _ _ _ _ _ (line_a-is N c.args.total c.args.figure c.requires.amounts.0 c.requires.amounts.1) c.put_line.ensures.written; short = omega arith }
