use Rattle.std.specs.Prelude.{◌≡◌}
use Rattle.model.specs.Network.{no_place}
use Rattle.model.specs.Sets.{place_at}
use Rattle.network.specs.View.{place_of_held}
use Rattle.network.proofs.Held.{numbered-held}
use Rattle.network.proofs.Network.place.Goals as goal

pub returns : goal.returns
unfolding place_at
returns c =
    let v = c.self.view_is in
    let e : c.deref.result.now ≡ c.self.inside.places.items = c.deref.ensures.0 in
    rw (e, ← v) (numbered-held place_of_held c.self.inside.places.items c.args.place _ no_place c.requires.low (rw (← v) at c.requires.high))
