use Rattle.std.specs.Prelude.{List, map}
use Rattle.std.proofs.Common.{sym, ap, ◌∙◌}
use Rattle.std.proofs.lemmas.List.{take-map}
use Rattle.model.specs.Network.{Network, Place}
use Rattle.network.specs.View.{station_of_held, line_of_held, place_of_held}
use Rattle.network.specs.Changed.{with_places, with_first_places}
use Rattle.network.proofs.Network.keep_places.Goals as goal

pub returns : goal.returns
unfolding with_places with_first_places
returns c =
    let i = c.self.inside in
    let held : List Place → Network = λ ps. record { head = i.head; stations = map station_of_held i.stations.items; lines = map line_of_held i.lines.items; places = ps } in
    rw (← c.self.view_is) (ap held (ap (map place_of_held) c.truncate.ensures.items ∙ sym (take-map place_of_held c.args.count i.places.items)))
