-- The marks that a path to the HV station meets: the first, and how many. Each line has them from those of the line that feeds it.
use Rattle.std.specs.Prelude.{ℕ, zero, suc, ◌+◌, ◌-◌, ◌≡◌, Option, None, Some, List, [], ◌∷◌, get_or}
use Rattle.model.specs.Network.{Network}
use Rattle.model.specs.Paths.{End}
use Rattle.theory.specs.Reading.{Read}
use Rattle.theory.specs.Radial.{Rules}
use Rattle.theory.specs.Behind.{far}
use Rattle.network.specs.There.{LineThere}
use Rattle.tree.specs.Outwards.{near_end, feeder}
use Rattle.tree.specs.Held.{HoldsFeeders}
use Rattle.tree.specs.declared.Tree.{Tree}
use Rattle.sets.specs.Sets.{route}
use Rattle.marks.specs.Held.{mark_on}
use Rattle.marks.specs.declared.Marks.{Marks}
use Rattle.paths.specs.declared.Met.{Met}

-- the first of two numbers that is one
abbrev pub or_else : Option ℕ → Option ℕ → Option ℕ
or_else None y = y
or_else (Some x) y = Some x

-- what a path meets that has no mark, and one that begins with an end with such a mark
abbrev pub no_met : Met
no_met = record { first = None; count = 0 }

abbrev pub met_next : Option ℕ → Met → Met
met_next None m = m
met_next (Some mark) m = record { first = Some mark; count = m.count + 1 }

-- what a path meets
unfoldable pub met_on : Marks → List End → Met
met_on marks [] = no_met
met_on marks (e ∷ es) = met_next (mark_on marks e) (met_on marks es)

-- what is held of a line; line 1 has the first
abbrev pub met_in : List Met → ℕ → Met
met_in mets l = get_or mets (l - 1) no_met

-- what the path of each line meets
abbrev pub HoldsMets : Network → Marks → List Met → Type 0
HoldsMets N marks mets = (l : ℕ) → LineThere N l → met_in mets l ≡ met_on marks (route N l)

-- a line, with what the path of the line that feeds it meets
pub record Known (N : Network) (t : Tree) (marks : Marks) (mets : List Met) (l : ℕ) : Type 0 where
  pub read : Read N
  pub rules : Rules N
  pub feeders : HoldsFeeders N t
  pub there : LineThere N l
  pub above : LineThere N (feeder N l) → met_in mets (feeder N l) ≡ met_on marks (route N (feeder N l))

-- the path of a station that a line feeds; that of an HV station where the line is 0
abbrev pub path_beyond : Network → ℕ → List End
path_beyond N zero = []
path_beyond N (suc k) = far (near_end N (suc k)) ∷ route N (suc k)

-- the path of the station that a line feeds
abbrev pub far_route : Network → ℕ → List End
far_route N l = far (near_end N l) ∷ route N l
