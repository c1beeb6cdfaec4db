use mathlib.Core.Logic.{inl, inr}
use native.Mathlib.Omega.{arith}
use borrow.Author.Tests.{leb-true, leb-false}
use Rattle.answers.proofs.is_line.Goals as goal

pub returns-then-numbered : goal.returns-then-numbered
returns-then-numbered c =
    let line = c.args.line in
    let n = c.line_count in
    ((λ e. (omega (arith, c.if-numbered.true), omega (arith, n.ensures.count, leb-true line n.result e))), λ e. inr (omega (arith, n.ensures.count, leb-false line n.result e)))

pub returns-else-numbered : goal.returns-else-numbered
returns-else-numbered c =
    let line = c.args.line in
    ((λ e. absurd (omega (arith, leb-true 1 line e, c.if-numbered.false))), λ e. inl (omega (arith, c.if-numbered.false)))
