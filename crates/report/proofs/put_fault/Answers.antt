use mathlib.Core.Path.{◌∙◌}
use native.Mathlib.Omega.{arith}
use Rattle.theory.specs.Sizes.{read-sized}
use Rattle.theory.specs.TextSizes.{line_f-length}
use Rattle.text.proofs.Listing.{same_text}
use Rattle.report.proofs.Lines.{line_f-is}
use Rattle.network.specs.There.{LineThere}
use Rattle.tree.proofs.Fitting.{line_held}
use Rattle.report.proofs.put_fault.Goals as goal

pub outage_amount-requires : goal.outage_amount-requires
outage_amount-requires c =
    let N = c.args.net.now in
    let l = c.args.line in
    let i : LineThere N l = record { low = c.requires.there.0; high = c.requires.there.1 } in
    (i, read-sized N c.requires.ready.0.read, c.requires.ready.1 l i)

pub impact-impact-requires : goal.impact-impact-requires
impact-impact-requires c = line_held _ c.requires.ready.0.read (record { low = c.requires.there.0; high = c.requires.there.1 })

pub returns : goal.returns
returns c =
    let N = c.args.net.now in
    let l = c.args.line in
    let i : LineThere N l = record { low = c.requires.there.0; high = c.requires.there.1 } in
    let t = same_text _ _ _ _ _ (line_f-is N l _ _ (c.impact-impact.ensures ∙ c.requires.ready.1 l i) (c.from-amount.ensures ∙ c.outage_amount.ensures)) c.put_line.ensures.written in
    record { written = t; short = omega (arith, t.0, line_f-length N c.requires.ready.0 l (omega (arith, (read-sized N c.requires.ready.0.read).line_count))) }
