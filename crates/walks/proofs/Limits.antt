-- Two walks that differ in their limit alone.
use Rattle.std.specs.Prelude.{◌≡◌, Bool, false}
use Rattle.std.proofs.Math.Path.{refl}
use mathlib.Core.List.{List, []}
use Prim.Native.Nat.{ℕ, zero-le}
use Rattle.model.specs.Walk.{start, walk}
use Rattle.walks.specs.Limits.{Limited, visit-beside, extend-beside, limited}

module _ (total_of : List ℕ → ℕ) (is_allowed : List ℕ → Bool) (saving_of : ℕ → ℕ) where
  module _ (limit enough : ℕ) where
    -- The walk with any limit, beside the same walk with a limit at which it is not spent.
    pub walk-limited : (adds : ℕ) (places : List ℕ) → (walk enough total_of is_allowed saving_of adds places).spent ≡ false
        → Limited limit (walk limit total_of is_allowed saving_of adds places) (walk enough total_of is_allowed saving_of adds places)
    unfolding walk start
    walk-limited adds places =
        limited total_of is_allowed saving_of limit enough
        (extend-beside total_of is_allowed saving_of limit enough adds [] places
        (visit-beside total_of is_allowed saving_of limit enough [] (start limit total_of is_allowed saving_of) refl zero-le))
