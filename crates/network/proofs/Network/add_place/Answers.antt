use Rattle.std.specs.Prelude.{List, [], ◌∷◌, map}
use Rattle.std.proofs.Common.{ap, ◌∙◌}
use Rattle.std.proofs.lemmas.List.{map-append}
use Rattle.model.specs.Network.{Network, Place}
use Rattle.network.specs.View.{station_of_held, line_of_held, place_of_held}
use Rattle.network.specs.Changed.{with_one_more, with_places}
use Rattle.network.proofs.Network.add_place.Goals as goal

pub returns : goal.returns
unfolding with_one_more with_places
returns c =
    let held : List Place → Network = λ xs. record { head = c.self.inside.head; stations = map station_of_held c.self.inside.stations.items; lines = map line_of_held c.self.inside.lines.items; places = xs } in
    rw (← c.self.view_is) (ap held (ap (map place_of_held) c.push.ensures.items ∙ map-append place_of_held c.self.inside.places.items (c.args.place ∷ [])))
