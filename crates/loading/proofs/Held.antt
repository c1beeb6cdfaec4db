-- What a ghost field of `Loaded` holds is truncated there. It can be had in full.
use Rattle.std.proofs.Props.{props}
use mathlib.Core.Logic.{∥∥₁_elim, ∥∥₁_map}
use Rattle.theory.specs.Props.{Accepted-prop}
use Rattle.tree.proofs.Full.{held_tree}
use Rattle.loading.specs.Loading.{IsLoaded}
use Rattle.loading.specs.declared.Loaded.{Loaded}

pub is_loaded : (l : Loaded) → IsLoaded l.network.now l.tree.now l.paths.now
is_loaded l = record {
  accepted = ∥∥₁_elim l.loaded (Accepted-prop l.network.now) (λ h. h.accepted);
  prepared = record {
    tree = held_tree l.network.now l.tree.now (∥∥₁_map l.loaded (λ h. h.prepared.tree));
    paths = record {
      trips = ∥∥₁_elim l.loaded (hlevel props) (λ h. h.prepared.paths.trips);
      counts = ∥∥₁_elim l.loaded (hlevel props) (λ h. h.prepared.paths.counts);
    };
  };
}
