use Rattle.std.specs.Prelude.{◌∷◌, ◌-◌, None, length, get_or}
use Rattle.std.proofs.Common.{sym, ap, ◌∙◌, arith}
use mathlib.Core.Path.{subst}
use Rattle.tree.specs.Linked.{Listed, along}
use Rattle.tree.proofs.Chains.{listed-bounds, listed-rest, listed-first}
use Rattle.tree.proofs.ClosedEndsIterator.next.Goals as goal

pub overflow_sub-self : goal.overflow_sub-self
overflow_sub-self c = (listed-bounds (subst (Listed c.self.inside.nexts.now) c.in_ok-code.was c.self.invariant)).0

pub bounds-self-inside-code : goal.bounds-self-inside-code
bounds-self-inside-code c = omega (arith, listed-bounds (subst (Listed c.self.inside.nexts.now) c.in_ok-code.was c.self.invariant))

pub invariant_of-self : goal.invariant_of-self
invariant_of-self c = listed-rest (subst (Listed c.self.inside.nexts.now) c.in_ok-code.was c.self.invariant)

pub returns-clause-steps : goal.returns-clause-steps
returns-clause-steps c =
    let xs = c.self.inside.nexts.now in
    sym c.self.view_is
    ∙ ap (along 1536 xs) c.in_ok-code.was
    ∙ listed-first (subst (Listed xs) c.in_ok-code.was c.self.invariant)
    ∙ ap (λ e. e ∷ along 1536 xs (get_or xs (c.in_ok-code.field-0 - 1) None)) (sym c.end_of.ensures)

pub returns-clause-goes : goal.returns-clause-goes
returns-clause-goes c =
    let xs = c.self.inside.nexts.now in
    let e = ap length (sym c.self.view_is ∙ ap (along 1536 xs) c.in_ok-code.was ∙ listed-first (subst (Listed xs) c.in_ok-code.was c.self.invariant)) in
    record { on = λ f. (tt, tt, omega (arith, e)); keeps = tt; rests = λ f. tt }
