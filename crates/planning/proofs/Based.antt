-- What a ghost field of `Basis` holds is truncated there. It can be had in full.
use Rattle.std.proofs.Props.{props}
use mathlib.Core.Logic.{∥∥₁_elim, ∥∥₁_map}
use Rattle.theory.specs.Props.{Accepted-prop}
use Rattle.tree.proofs.Full.{held_outwards}
use Rattle.planning.specs.Planned.{HoldsBasis}
use Rattle.planning.specs.declared.Basis.{Basis}

pub based : (x : Basis) → HoldsBasis x.network.now x.tree.now x.paths.now x.behind.now
based x = record {
  accepted = ∥∥₁_elim x.based (Accepted-prop x.network.now) (λ h. h.accepted);
  outwards = held_outwards x.network.now x.tree.now (∥∥₁_map x.based (λ h. h.outwards));
  paths = record {
    trips = ∥∥₁_elim x.based (hlevel props) (λ h. h.paths.trips);
    counts = ∥∥₁_elim x.based (hlevel props) (λ h. h.paths.counts);
  };
  customers = ∥∥₁_elim x.based (hlevel props) (λ h. h.customers);
}
