-- The refusal that is told beside what is printed.
use Rattle.std.specs.Prelude.{◌≡◌, ℕ, List, Option, None, Some}
use Rattle.model.specs.Answer.{Answer, given, refused, refusal_number, refusal_record}
use Rattle.model.specs.declared.Refusal.{Refusal}

-- a refusal is told just where the answer is one, and it is that one
abbrev pub Told : Option Refusal → Answer (List ℕ) → Type 0
Told (Some r) answer = answer ≡ refused (refusal_number r) (refusal_record r)
Told None answer = (text : List ℕ) × (answer ≡ given text)
