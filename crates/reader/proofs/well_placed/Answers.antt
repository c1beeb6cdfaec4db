use Rattle.std.proofs.Common.{ap, sym, arith, ◌∙◌}
use Rattle.model.specs.Network.{comes_after}
use Rattle.model.specs.Paths.{state}
use Rattle.network.specs.View.{place_of_held}
use Rattle.reader.specs.Reading.{last_place}
use Rattle.reader.proofs.Placed.{too_many, out_of_order, by_state}
use Rattle.reader.proofs.well_placed.Goals as goal
use Rattle.reader.proofs.well_placed.Goals.{then-room, else-room}

pub returns-then-comes_last : goal.returns-then-comes_last
unfolding state
returns-then-comes_last c =
    let a = c.args in
    elim c.if-room.branch [
      | then-room w ↦
          by_state a.net.now.lines _ _ (place_of_held a.place.now) (omega arith)
          (sym (ap (λ ps. comes_after (last_place ps) (place_of_held a.place.now)) w.places.ensures) ∙ sym w.comes_last.ensures ∙ sym w.value-is ∙ c.if-comes_last.true)
          _ c.is_plain.ensures
      | else-room w ↦ cc
    ]

pub returns-else-comes_last : goal.returns-else-comes_last
returns-else-comes_last c =
    let a = c.args in
    elim c.if-room.branch [
      | then-room w ↦
          c.if-comes_last.false ∙ out_of_order a.net.now.lines _ _ (place_of_held a.place.now)
          (sym (ap (λ ps. comes_after (last_place ps) (place_of_held a.place.now)) w.places.ensures) ∙ sym w.comes_last.ensures ∙ sym w.value-is ∙ c.if-comes_last.false)
      | else-room w ↦ c.if-comes_last.false ∙ too_many a.net.now.lines _ _ (place_of_held a.place.now) (omega arith)
    ]
