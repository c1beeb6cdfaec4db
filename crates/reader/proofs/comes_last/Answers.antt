use Rattle.std.proofs.Common.{ap, sym, ◌∙◌}
use Rattle.model.specs.Network.{comes_after}
use Rattle.network.specs.View.{place_of_held}
use Rattle.reader.proofs.Placed.{last_is, first_of_all, side-positive}
use Rattle.reader.proofs.comes_last.Goals as goal

pub returns-in-Some : goal.returns-in-Some
returns-in-Some c =
    let a = c.args in
    c.comes_after.ensures
    ∙ ap (λ q. comes_after q (place_of_held a.place.now)) (sym (last_is place_of_held a.places.now c.in-Some.last.now (sym c.in-Some.ensures.value)))

pub returns-in-None : goal.returns-in-None
returns-in-None c =
    let a = c.args in
    sym (first_of_all place_of_held a.places.now (place_of_held a.place.now) (sym c.in-None.ensures.value) (side-positive a.place.now.side))
