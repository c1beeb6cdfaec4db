use Rattle.std.proofs.Common.{ap, ◌∙◌}
use Rattle.model.specs.Paths.{station_at}
use Rattle.network.specs.View.{side_number, station_at_end}
use Rattle.network.proofs.Network.end_station.Goals as goal

pub returns : goal.returns
unfolding station_at
returns c = c.station.ensures ∙ ap (λ l. station_at_end l (side_number c.end.inside.side)) c.line.ensures ∙ ap (station_at c.args.self.now) c.end.view_is
