use Rattle.std.specs.Prelude.{List, [], ◌∷◌, map}
use Rattle.std.proofs.Common.{ap, ◌∙◌}
use Rattle.std.proofs.lemmas.List.{map-append}
use Rattle.model.specs.Network.{Network, Line}
use Rattle.network.specs.View.{station_of_held, line_of_held, place_of_held}
use Rattle.network.specs.Changed.{with_one_more_line, with_lines}
use Rattle.network.proofs.Network.add_line.Goals as goal

pub returns : goal.returns
unfolding with_one_more_line with_lines
returns c =
    let held : List Line → Network = λ xs. record { head = c.self.inside.head; stations = map station_of_held c.self.inside.stations.items; lines = xs; places = map place_of_held c.self.inside.places.items } in
    rw (← c.self.view_is) (ap held (ap (map line_of_held) c.push.ensures.items ∙ map-append line_of_held c.self.inside.lines.items (c.args.line ∷ [])))
