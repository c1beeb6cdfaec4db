-- The savings of an accepted network's places are small.
use Prim.Native.Nat.{ℕ}
use mathlib.Core.List.{List, [], ◌∷◌, map}
use Rattle.model.specs.Network.{Network}
use Rattle.model.specs.Sets.{saving}
use Rattle.theory.specs.Sizes.{Sized, saving-size}
use Rattle.bounds.specs.Table.{Small}

pub savings-small : (N : Network) → Sized N → (ps : List ℕ) → Small (map (λ p. saving N p) ps)
savings-small N s [] = tt
savings-small N s (p ∷ ps) = (saving-size N s p, savings-small N s ps)
