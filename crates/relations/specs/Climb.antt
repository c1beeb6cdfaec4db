-- The places above a place, those on the path onward from it: how the relations to them are noted.
use Rattle.std.specs.Prelude.{ℕ, ◌≤◌, ◌≡◌, Bool, ◌&&◌, List, eqb}
use Rattle.model.specs.Network.{Network}
use Rattle.savings.specs.First.{this}
use Rattle.savings.specs.Breakers.{end_at}
use Rattle.sets.specs.Ways.{has}
use Rattle.sets.specs.Onward.{onward}
use Rattle.sets.specs.Stops.{first_place}
use Rattle.sets.specs.Apart.{place_ends}
use Rattle.marks.specs.Held.{place_on}
use Rattle.relations.specs.declared.Relation.{Relation}
use Rattle.relations.specs.declared.Relation.TheVariants.{Behind, Above}
use Rattle.relations.specs.Lists.{relation_at}

-- place q is above place p
abbrev pub is_above : Network → ℕ → ℕ → Bool
is_above N q p = has (end_at N q) (onward N (end_at N p))

-- the next place above a place, 0 if there is none
abbrev pub place_above : Network → ℕ → ℕ
place_above N p = place_on N (first_place (place_ends N) (onward N (end_at N p)))

-- a number from 1 to n
abbrev pub Among : ℕ → ℕ → Type 0
Among n p = (1 ≤ p) × (p ≤ n)

-- behind where the first test passes, above where the second does, else what was there
abbrev pub noted : Bool → Bool → Relation → Relation
noted a b old = this a Behind (this b Above old)

-- from one state of the relations to another: those of p to the places that pass a test are noted
abbrev pub Noted : ℕ → (ℕ → Bool) → ℕ → List Relation → List Relation → Type 0
Noted n test p old new = (q r : ℕ) → Among n q → Among n r → relation_at new q r ≡ noted (eqb r p && test q) (eqb q p && test r) (relation_at old q r)

-- row 0 stays
abbrev pub Kept : List Relation → List Relation → Type 0
Kept old new = (p : ℕ) → p ≤ 64 → relation_at new 0 p ≡ relation_at old 0 p
