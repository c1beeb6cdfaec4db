-- What a ghost field of `Routes` holds is truncated there. It can be had in full.
use Rattle.std.proofs.Props.{props}
use mathlib.Core.Logic.{∥∥₁_elim}
use Rattle.theory.specs.Props.{Accepted-prop}
use Rattle.relations.specs.Related.{HoldsRoutes}
use Rattle.relations.specs.declared.Routes.{Routes}

pub routed : (r : Routes) → HoldsRoutes r.net.now r.tree.now r.places.now r.firsts.now
routed r = record {
  accepted = ∥∥₁_elim r.held (Accepted-prop r.net.now) (λ h. h.accepted);
  nears = ∥∥₁_elim r.held (hlevel props) (λ h. h.nears);
  places = ∥∥₁_elim r.held (hlevel props) (λ h. h.places);
  firsts = ∥∥₁_elim r.held (hlevel props) (λ h. h.firsts);
}
