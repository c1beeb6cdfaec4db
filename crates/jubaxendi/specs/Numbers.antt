-- What a call returns to a program in another language, and what it leaves in the lent list of eight numbers, `answer`.
use Rattle.std.specs.Prelude.{ℕ, ◌+◌, ◌*◌, true, false, List, [], ◌∷◌}
use Rattle.model.specs.Answer.{Answer, given, refused, ◌>>=◌}
use Rattle.model.specs.Calls.{written}
use Rattle.model.specs.declared.Totals.{Totals}
use Rattle.model.specs.declared.Outcome.{Outcome}

-- 0 for an answer; a refusal's number and record in one
unfoldable pub returned : {A : Type 0} → Answer A → ℕ
returned (given x) = 0
returned (refused number place) = number * 65536 + place

-- `answer` after a call: the values of what is given stand at its start and the rest stays. A refusal writes nothing.
unfoldable pub answer_leaves : {A : Type 0} → (A → List ℕ) → Answer A → List ℕ → List ℕ
unfolding written
answer_leaves values a answer = written (a >>= λ x. given (values x)) answer

-- Check has no values.
abbrev pub no_values : Unit {0} → List ℕ
no_values u = []

-- a number by itself
abbrev pub one_value : ℕ → List ℕ
one_value n = n ∷ []

-- Impact: the customers.
abbrev pub impact_values : ℕ → List ℕ
impact_values customers = one_value customers

-- Total: the total and the figure.
abbrev pub total_values : Totals → List ℕ
total_values t = t.total ∷ t.figure ∷ []

-- Search: 1 finished or 0 spent, the number of members, their total, the visits.
abbrev pub search_values : Outcome → List ℕ
search_values o = (elim o.finished [ true ↦ 1 | false ↦ 0 ]) ∷ o.members ∷ o.total ∷ o.visits ∷ []

-- Report: the length of the text.
abbrev pub report_values : ℕ → List ℕ
report_values length = one_value length

-- Segments: the number of entries.
abbrev pub segments_values : ℕ → List ℕ
segments_values entries = one_value entries

-- Ceiling: the number of sets.
abbrev pub ceiling_values : ℕ → List ℕ
ceiling_values sets = one_value sets
