use Rattle.planning.proofs.Based.{based}
use Rattle.planning.proofs.prepare.Goals as goal

pub mark_places-requires : goal.mark_places-requires
mark_places-requires c = (based c.args.basis.now).accepted.read

pub follow-requires : goal.follow-requires
follow-requires c = let h = based c.args.basis.now in (h.accepted.read, h.accepted.rules, h.outwards, c.mark_places.ensures)

pub invariant_of-routes : goal.invariant_of-routes
invariant_of-routes c =
    let h = based c.args.basis.now in
    record { held = ∣ record { accepted = h.accepted; nears = h.outwards.feeders.nears; places = c.mark_places.ensures; firsts = c.follow.ensures } ∣₁ }

pub relate-requires : goal.relate-requires
relate-requires c = (based c.args.basis.now).outwards.feeders

pub start-requires : goal.start-requires
start-requires c = ((based c.args.basis.now).paths, c.relate.ensures.table)
