use Rattle.loading.proofs.Held.{is_loaded}
use Rattle.planning.proofs.search_network.Goals as goal

pub invariant_of-basis : goal.invariant_of-basis
invariant_of-basis c =
    let h = is_loaded c.args.loaded.now in
    record { based = ∣ record { accepted = h.accepted; outwards = h.prepared.tree.outwards; paths = h.prepared.paths; customers = c.customers-behind.ensures } ∣₁ }
