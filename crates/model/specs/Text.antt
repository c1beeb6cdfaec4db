-- The text of the report ("Calls", its second paragraph).
use Rattle.std.specs.Prelude.{ℕ, zero, suc, ◌+◌, ◌/◌, ◌%◌, true, false, length, ltb}
use mathlib.Core.List.{List, [], ◌∷◌, ◌++◌, flat_map}
use Rattle.model.specs.Format.{comma, newline}
use Rattle.model.specs.Network.{Network}
use Rattle.model.specs.Paths.{line_numbers}
use Rattle.model.specs.Outage.{impact, outage_amount, total, figure}
use Rattle.model.specs.Sets.{place_at}
use Rattle.model.specs.Walk.{Found, search}

-- the digits of a number, at most `more` + 1 of them
unfoldable pub digits : ℕ → ℕ → List ℕ
digits zero n = (48 + n) ∷ []
digits (suc more) n = elim (ltb n 10) [ true ↦ (48 + n) ∷ [] | false ↦ digits more (n / 10) ++ ((48 + n % 10) ∷ []) ]

-- a number without leading zeros; it has at most as many digits as its value, or one
unfoldable pub decimal : ℕ → List ℕ
unfolding digits
decimal n = digits n n

-- a printed line: a letter, and each number behind a comma
unfoldable pub printed_line : ℕ → List ℕ → List ℕ
unfolding flat_map decimal
printed_line letter ns = letter ∷ (flat_map (λ n. comma ∷ decimal n) ns ++ (newline ∷ []))

-- A,total,figure
unfoldable pub line_a : Network → List ℕ
unfolding printed_line total figure
line_a N = printed_line 65 (total N ∷ figure N ∷ [])

-- F,line,impact,weight × impact, before any addition
unfoldable pub line_f : Network → ℕ → List ℕ
unfolding printed_line impact outage_amount
line_f N l = printed_line 70 (l ∷ impact N l ∷ outage_amount N l ∷ [])

-- 1 for finished, 0 for spent
abbrev pub finished_number : Found → ℕ
finished_number f = elim f.spent [ true ↦ 0 | false ↦ 1 ]

-- C,1 finished or 0 spent,visits,members,total with them
unfoldable pub line_c : Found → List ℕ
unfolding printed_line
line_c f = printed_line 67 (finished_number f ∷ f.visits ∷ length f.members ∷ f.best ∷ [])

-- B,line,end of a member
unfoldable pub line_b : Network → ℕ → List ℕ
unfolding printed_line place_at
line_b N p = printed_line 66 ((place_at N p).line ∷ (place_at N p).side ∷ [])

-- the report
unfoldable pub report_text : Network → List ℕ
unfolding flat_map line_a line_f line_c line_b line_numbers search
report_text N =
    let f : Found = search N in
    line_a N ++ flat_map (λ l. line_f N l) (line_numbers N) ++ line_c f ++ flat_map (λ p. line_b N p) f.members

-- X,number,record
unfoldable pub line_x : ℕ → ℕ → List ℕ
unfolding printed_line
line_x number place = printed_line 88 (number ∷ place ∷ [])
