-- The parts of a report.
use Rattle.std.specs.Prelude.{ℕ, Bool, true, false}
use mathlib.Core.List.{List, [], ◌∷◌, flat_map}
use Rattle.model.specs.Network.{Network}
use Rattle.model.specs.Paths.{line_numbers}
use Rattle.model.specs.Text.{printed_line, line_f, line_b}

-- the F lines of all lines
abbrev pub fault_lines : Network → List ℕ
fault_lines N = flat_map (λ l. line_f N l) (line_numbers N)

-- 1 for a search that finished, 0 for one that is spent
abbrev pub finished_number : Bool → ℕ
finished_number spent = elim spent [ true ↦ 0 | false ↦ 1 ]

-- the C line of a search
abbrev pub outcome_line : Bool → ℕ → ℕ → ℕ → List ℕ
outcome_line spent visits count best = printed_line 67 (finished_number spent ∷ visits ∷ count ∷ best ∷ [])

-- the B lines of places
abbrev pub member_lines : Network → List ℕ → List ℕ
member_lines N members = flat_map (λ p. line_b N p) members
