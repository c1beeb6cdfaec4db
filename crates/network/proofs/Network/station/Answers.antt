use Rattle.std.specs.Prelude.{◌≡◌}
use Rattle.model.specs.Paths.{no_station}
use Rattle.network.specs.View.{station_of_held}
use Rattle.network.proofs.Held.{numbered-held}
use Rattle.network.proofs.Network.station.Goals as goal

pub returns : goal.returns
returns c =
    let v = c.self.view_is in
    let e : c.deref.result.now ≡ c.self.inside.stations.items = c.deref.ensures.0 in
    rw (e, ← v) (numbered-held station_of_held c.self.inside.stations.items c.args.station _ no_station c.requires.low (rw (← v) at c.requires.high))
