use mathlib.Core.Path.{ap, ◌∙◌}
use mathlib.Core.List.{◌∷◌}
use lib.ListN.{drop}
use Rattle.model.specs.Paths.{End}
use Rattle.segments.proofs.Entry.{five}
use Rattle.segments.proofs.put_entry.Goals as goal

pub returns : goal.returns
returns c =
    let g = c.args in
    five g.table.now _ _ _ _ _ c.requires.0
    ∙ (λ i. (c.end.view_is i).line ∷ (c.number.ensures ∙ ap (λ (e : End). e.side) c.end.view_is) i ∷ g.weight.0 ∷ g.customers.0 ∷ (c.into.ensures ∙ c.mul.ensures) i ∷ drop 5 g.table.now)
