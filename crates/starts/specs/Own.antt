-- Which lines and stations are a place's own: those whose path meets it first. And of which places what is their own counts for a
-- place.
use Rattle.std.specs.Prelude.{ℕ, Bool, true, false, ◌||◌, [], eqb}
use Rattle.model.specs.Network.{Network}
use Rattle.model.specs.Paths.{End, same_end, is_open}
use Rattle.savings.specs.Breakers.{end_at}
use Rattle.savings.specs.Totals.{breakers_with}
use Rattle.theory.specs.Behind.{far}
use Rattle.tree.specs.Outwards.{near_end}
use Rattle.sets.specs.Stops.{first_stop, first_place}
use Rattle.sets.specs.Sets.{route, under_at}
use Rattle.sets.specs.Apart.{place_ends}
use Rattle.marks.specs.Held.{place_on}
use Rattle.paths.specs.Meets.{far_route}
use Rattle.relations.specs.declared.Relation.{Relation}
use Rattle.relations.specs.declared.Relation.TheVariants.{Apart, Behind, Above}
use Rattle.relations.specs.declared.Relations.{Relations}
use Rattle.relations.specs.Related.{between_in}

-- the far end of a line
abbrev pub far_end : Network → ℕ → End
far_end N l = far (near_end N l)

-- the place where a line's path first meets a breaker or a place, 0 if that is a breaker
abbrev pub stop_of : Network → ℕ → ℕ
stop_of N l = place_on N (first_stop (breakers_with N []) (place_ends N) (route N l))

-- the first place on the path of the station that a line feeds; 0 if it has none, or its far end is open
abbrev pub far_place : Network → ℕ → ℕ
far_place N l = elim (is_open N (far_end N l)) [ true ↦ 0 | false ↦ place_on N (first_place (place_ends N) (far_route N l)) ]

-- by the relations, place s is place p or behind it
abbrev pub is_behind : Relation → Bool
is_behind Apart = false
is_behind Behind = true
is_behind Above = false

abbrev pub behind_in : Relations → ℕ → ℕ → Bool
behind_in relations p s = eqb s p || is_behind (between_in relations p s)

-- place s is place p or behind it, with the same breaker upstream of both
abbrev pub counts_for : Network → ℕ → ℕ → Bool
counts_for N p s = same_end (end_at N s) (end_at N p) || under_at N [] (end_at N s) (end_at N p)
