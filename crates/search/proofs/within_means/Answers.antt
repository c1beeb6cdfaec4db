use mathlib.Core.Path.{sym, ap, ◌∙◌}
use mathlib.Core.Bool.{◌&&◌}
use lib.Dec.{leb}
use borrow.Author.Tests.{le-leb, lt-leb}
use Rattle.model.specs.declared.Head.{Head}
use Rattle.search.proofs.within_means.Goals as goal

pub returns-then-cost-head : goal.returns-then-cost-head
returns-then-cost-head c =
    let a = c.args in
    let h = c.head-head.result.now in
    sym (ap (λ (x : Head). leb a.cost x.money && leb a.hours x.hours) (sym c.head-head.ensures) ∙ ap (λ t. t && leb a.hours h.hours) (le-leb a.cost h.money c.if-cost-head.true))

pub returns-else-cost-head : goal.returns-else-cost-head
returns-else-cost-head c =
    let a = c.args in
    let h = c.head-head.result.now in
    let n = lt-leb a.cost h.money c.if-cost-head.false in
    n ∙ sym (ap (λ (x : Head). leb a.cost x.money && leb a.hours x.hours) (sym c.head-head.ensures) ∙ ap (λ t. t && leb a.hours h.hours) n)
