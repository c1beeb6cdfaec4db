use Rattle.std.specs.Prelude.{List, map}
use Rattle.std.proofs.Common.{ap}
use Rattle.model.specs.Network.{Network, Line}
use Rattle.network.specs.View.{station_of_held, line_of_held, place_of_held}
use Rattle.network.specs.Changed.{with_lines}
use Rattle.network.proofs.Held.{renumbered-held}
use Rattle.network.proofs.Network.set_line.Goals as goal

pub returns : goal.returns
unfolding with_lines
returns c =
    let i = c.self.inside in
    let held : List Line → Network = λ ls. record { head = i.head; stations = map station_of_held i.stations.items; lines = ls; places = map place_of_held i.places.items } in
    rw (← c.self.view_is) (ap held (renumbered-held line_of_held i.lines.items c.deref_mut.result.now c.args.line c.args.new c.deref_mut.ensures.value c.requires.low))
