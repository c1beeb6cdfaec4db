use mathlib.Core.Path.{◌≡◌}
use mathlib.Core.List.{Sublistᴰ}
use Prim.Native.Nat.{ℕ}
use mathlib.Core.List.{List}
use Rattle.model.specs.Network.{Network}
use Rattle.model.specs.Sets.{place_numbers, with_breakers}
use Rattle.theory.specs.Reading.{Read}
use Rattle.theory.specs.Radial.{Rules}
use Rattle.tree.specs.Held.{HoldsOutwards}
use Rattle.outage.specs.Held.{HoldsCustomers}
use Rattle.planning.specs.declared.Basis.{Basis}
use Rattle.planning.proofs.Based.{based}
use Rattle.planning.proofs.Changing.{still, total-still}
use Rattle.planning.proofs.total_with.Goals as goal

-- what still holds with the breakers of a set
changed : (x : Basis) (S : List ℕ) → Sublistᴰ S (place_numbers x.network.now) → (M : Network) → M ≡ with_breakers x.network.now S → Read M × Rules M × HoldsOutwards M x.tree.now × HoldsCustomers M x.behind.now
changed x S s M e = let h = based x in still x.network.now h.accepted S s M e x.tree.now x.behind.now h.outwards h.customers

pub with_breakers-requires : goal.with_breakers-requires
with_breakers-requires c = ((based c.args.basis.now).accepted.read, c.requires)

pub follow-requires : goal.follow-requires
follow-requires c = let k = changed c.args.basis.now c.args.members.now c.requires c.with_breakers.new.changed c.with_breakers.ensures in (k.0, k.1, k.2)

pub fill-requires : goal.fill-requires
fill-requires c = let k = changed c.args.basis.now c.args.members.now c.requires c.with_breakers.new.changed c.with_breakers.ensures in (k.0, k.1, c.follow.ensures.trips, k.3)

pub total_of-requires : goal.total_of-requires
total_of-requires c = ((changed c.args.basis.now c.args.members.now c.requires c.with_breakers.new.changed c.with_breakers.ensures).0, c.fill.ensures)

pub returns : goal.returns
returns c = total-still c.args.basis.now.network.now (based c.args.basis.now).accepted c.args.members.now c.requires c.with_breakers.new.changed c.with_breakers.ensures c.total_of.ensures
