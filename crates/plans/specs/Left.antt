-- What an answer and the buffer that it was written in say together.
use Rattle.std.specs.Prelude.{ℕ, ◌≤◌, ◌≡◌, List, length, take, Result, Ok, Err}
use Rattle.model.specs.Answer.{Answer, given, refused, refusal_number, refusal_record}
use Rattle.model.specs.declared.Refusal.{Refusal}

-- the text at the start of the buffer, or the refusal
abbrev pub text_in : Result ℕ Refusal → List ℕ → Answer (List ℕ)
text_in (Ok n) out = given (take n out)
text_in (Err r) out = refused (refusal_number r) (refusal_record r)

-- the text is no longer than the buffer
abbrev pub Fits : Result ℕ Refusal → List ℕ → Type 0
Fits (Ok n) out = n ≤ length out
Fits (Err r) out = Unit {0}

-- an answer is left in the buffer
abbrev pub Left : Answer (List ℕ) → Result ℕ Refusal → List ℕ → Type 0
Left answer r out = (text_in r out ≡ answer) × Fits r out
