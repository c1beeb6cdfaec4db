use Rattle.model.specs.declared.Head.{Head}
use mathlib.Core.Path.{refl, sym, ap, ◌∙◌}
use native.Mathlib.Omega.{arith}
use lib.ListN.{length}
use Rattle.search.proofs.Starting.{saved-none, counted_none, extending-none, search_is}
use Rattle.search.proofs.Walk.run.Goals as goal

pub visit-requires : goal.visit-requires
visit-requires c = (saved-none c.requires c.clear.ensures, omega (arith, ap length c.clear.ensures), counted_none c.requires c.begin-course.ensures)

pub extend-requires : goal.extend-requires
extend-requires c =
    extending-none c.requires c.clear.ensures refl c.begin-course.ensures c.visit.ensures c.head.result.now.adds (sym (ap (λ (h : Head). h.adds) c.head.ensures))

pub returns-clause-found : goal.returns-clause-found
returns-clause-found c =
    c.extend.ensures.found ∙ search_is c.requires c.clear.ensures refl c.begin-course.ensures c.visit.ensures c.head.result.now.adds (sym (ap (λ (h : Head). h.adds) c.head.ensures))
