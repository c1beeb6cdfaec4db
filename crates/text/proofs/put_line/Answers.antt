use mathlib.Core.Path.{sym, subst, ◌∙◌}
use mathlib.Core.List.{List}
use Prim.Native.Nat.{ℕ}
use native.Mathlib.Omega.{arith}
use borrow.Author.Rules.{rules}
use Rattle.text.proofs.Lines.{Begun, begin, one_more, finish}
use Rattle.text.proofs.put_line.Goals as goal

pub loop-number-init : goal.loop-number-init
loop-number-init c =
    let a = c.args in
    subst (λ (b : List ℕ). Begun a.letter a.numbers.now b b 1 0) (sym c.put_byte.ensures) (begin a.letter a.numbers.now a.buf.now (search rules))

pub loop-number-preserved : goal.loop-number-preserved
loop-number-preserved c =
    let e = c.put_number-at.ensures in
    one_more _ _ _ _ _ _ _ _ _ (omega arith) c.loop-number.invariant c.put_byte-in-loop-number.ensures e.written.0 e.short.1 e.written.1

pub returns : goal.returns
returns c =
    let a = c.args in
    let l = c.loop-number in
    let begun = subst (λ (b : List ℕ). Begun a.letter a.numbers.now b l.buf l.at l.number-index) c.put_byte.ensures l.invariant in
    let f = finish a.letter a.numbers.now a.buf.now _ _ _ (search rules) begun in
    record { written = (f.0, c.put_byte-2.ensures ∙ f.1); short = omega arith }
