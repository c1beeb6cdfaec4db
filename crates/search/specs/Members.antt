-- What a clause sees of the members of a set.
use Rattle.std.specs.Prelude.{ℕ, List}

-- the members, and what else there is room for, so that a copy is the same value
pub record Members : Type 0 where
  pub items : List ℕ
  pub spare : List ℕ
