use Rattle.std.specs.Prelude.{List, [], ◌∷◌, map}
use Rattle.std.proofs.Common.{ap, ◌∙◌}
use Rattle.std.proofs.lemmas.List.{map-append}
use Rattle.model.specs.Network.{Network, Station}
use Rattle.network.specs.View.{station_of_held, line_of_held, place_of_held}
use Rattle.network.specs.Changed.{with_one_more_station}
use Rattle.network.proofs.Network.add_station.Goals as goal

pub returns : goal.returns
unfolding with_one_more_station
returns c =
    let held : List Station → Network = λ xs. record { head = c.self.inside.head; stations = xs; lines = map line_of_held c.self.inside.lines.items; places = map place_of_held c.self.inside.places.items } in
    rw (← c.self.view_is) (ap held (ap (map station_of_held) c.push.ensures.items ∙ map-append station_of_held c.self.inside.stations.items (c.args.station ∷ [])))
