-- The record that comes next, and what is said of it.
use Rattle.std.specs.Prelude.{ℕ, List, [], ◌∷◌, Option, None, Some, Result}
use Rattle.std.specs.Borrow.{Bor}
use Rattle.arrayvec.specs.ArrayVec.{ArrayVec}
use Rattle.model.specs.declared.Refusal.{Refusal}
use Rattle.model.specs.Answer.{Answer, given, ◌>>=◌, refuse_form, says}
use Rattle.model.specs.Format.{Record, closed, unclosed, records_of}
use Rattle.model.specs.Network.{Kind, read_record}

-- the numbers of the first of these records, which is record `i`, and the records behind it; where there is none, it is absent
unfoldable pub next_record : (stations lines i : ℕ) → Kind → List Record → Answer (List ℕ × List Record)
unfolding read_record
next_record stations lines i k [] = refuse_form i
next_record stations lines i k (r ∷ rs) = read_record stations lines i k r >>= λ vs. given (vs, rs)

-- the bytes of the first of these records, where it is closed, and the records behind it
unfoldable pub first_closed : List Record → Option (List ℕ × List Record)
first_closed [] = None
first_closed (closed r ∷ rs) = Some (r, rs)
first_closed (unclosed r ∷ rs) = None

-- bytes that are given, and the records of those behind them
abbrev pub closed_says : Option (Bor (List ℕ) × Bor (List ℕ)) → Option (List ℕ × List Record)
closed_says None = None
closed_says (Some p) = Some (p.0.now, records_of p.1.now)

-- numbers that are given, and the records of the bytes behind them
abbrev pub record_says : Result (ArrayVec ℕ × Bor (List ℕ)) Refusal → Answer (List ℕ × List Record)
record_says r = says r >>= λ p. given (p.0.items, records_of p.1.now)

-- numbers that are given, and the records of what is left
abbrev pub read_says : Result (ArrayVec ℕ) Refusal → List ℕ → Answer (List ℕ × List Record)
read_says r rest = says r >>= λ row. given (row.items, records_of rest)

-- the numbers in a row, if there is one
abbrev pub numbers : Option (ArrayVec ℕ) → Option (List ℕ)
numbers (Some row) = Some row.items
numbers None = None
