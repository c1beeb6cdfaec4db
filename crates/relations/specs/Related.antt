-- How places stand to each other, and which later places each is related to, as the table of the relations has it.
use Rattle.std.specs.Prelude.{ℕ, ◌+◌, ◌-◌, ◌≤◌, ◌≡◌, true, false, List, [], length, get_or, map}
use Rattle.model.specs.Network.{Network}
use Rattle.savings.specs.Breakers.{end_at}
use Rattle.theory.specs.Best.{Accepted}
use Rattle.sets.specs.Ways.{has}
use Rattle.sets.specs.Onward.{onward}
use Rattle.tree.specs.Held.{HoldsNears}
use Rattle.tree.specs.declared.Tree.{Tree}
use Rattle.marks.specs.Held.{HoldsPlaces}
use Rattle.marks.specs.declared.Marks.{Marks}
use Rattle.paths.specs.Held.{HoldsFirsts}
use Rattle.paths.specs.declared.Firsts.{Firsts}
use Rattle.relations.specs.declared.Relation.{Relation}
use Rattle.relations.specs.declared.Relation.TheVariants.{Apart, Behind, Above}
use Rattle.relations.specs.declared.Relations.{Relations}
use Rattle.relations.specs.Lists.{relation_at, Listed}

-- the near ends, the places and the first places are those of an accepted network
pub record HoldsRoutes (N : Network) (t : Tree) (m : Marks) (f : Firsts) : Type 0 where
  pub accepted : Accepted N
  pub nears : HoldsNears N t
  pub places : HoldsPlaces N m
  pub firsts : HoldsFirsts N f

-- how place p stands to place q
unfoldable pub relation : Network → ℕ → ℕ → Relation
unfolding onward
relation N q p =
    elim (has (end_at N q) (onward N (end_at N p))) [
      | true ↦ Behind
      | false ↦ elim (has (end_at N p) (onward N (end_at N q))) [ true ↦ Above | false ↦ Apart ]
    ]

-- how place p stands to place q in the table
abbrev pub between_in : Relations → ℕ → ℕ → Relation
between_in r q p = relation_at r.between q p

-- the later places that the table lists for place q, and for how many places it has such a list
abbrev pub later_in : Relations → ℕ → List ℕ
later_in r q = get_or (map (λ row. row.items) r.later.items) (q - 1) []

abbrev pub row_count : Relations → ℕ
row_count r = length r.later.items

-- for each of `count` places, the table lists the later ones of them that it is related to
pub record HoldsLater (r : Relations) (count : ℕ) : Type 0 where
  pub rows : count ≤ row_count r
  pub each : (q : ℕ) → 1 ≤ q → q ≤ count → Listed r.between q (count + 1) (later_in r q)

-- the table has the relations of all places; row 0, of no place, says apart everywhere
pub record HoldsRelations (N : Network) (r : Relations) : Type 0 where
  pub none : (p : ℕ) → p ≤ 64 → between_in r 0 p ≡ Apart
  pub each : (q p : ℕ) → 1 ≤ q → q ≤ length N.places → 1 ≤ p → p ≤ length N.places → between_in r q p ≡ relation N q p
