use Rattle.std.specs.Prelude.{List, map}
use Rattle.std.proofs.Common.{ap}
use Rattle.model.specs.Network.{Network, Place}
use Rattle.network.specs.View.{station_of_held, line_of_held, place_of_held}
use Rattle.network.specs.Changed.{with_places, with_place}
use Rattle.network.proofs.Held.{renumbered-held}
use Rattle.network.proofs.Network.set_place.Goals as goal

pub returns : goal.returns
unfolding with_places with_place
returns c =
    let i = c.self.inside in
    let held : List Place → Network = λ ps. record { head = i.head; stations = map station_of_held i.stations.items; lines = map line_of_held i.lines.items; places = ps } in
    rw (← c.self.view_is) (ap held (renumbered-held place_of_held i.places.items c.deref_mut.result.now c.args.place c.args.new c.deref_mut.ensures.value c.requires.low))
