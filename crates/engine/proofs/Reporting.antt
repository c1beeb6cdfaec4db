-- What Report answers and leaves in the lent buffer.
use Rattle.std.specs.Prelude.{◌≡◌, ℕ, ◌≤◌, ◌<◌, List, ◌++◌, length, drop, Result, Ok, Err}
use Rattle.std.proofs.Common.{sym, ap, ◌∙◌}
use Rattle.model.specs.Answer.{Answer, given, refused, refusal_number, refusal_record, ◌>>=◌, says}
use Rattle.model.specs.Network.{Network}
use Rattle.model.specs.Text.{report_text}
use Rattle.model.specs.Rules.{accepted}
use Rattle.model.specs.Calls.{written, reported, report_answered, report_leaves}
use Rattle.model.specs.declared.Refusal.{Refusal}
use Rattle.model.specs.declared.Refusal.TheVariants.{ShortBuffer}
use Rattle.engine.proofs.Lending.{lent-short, lent-enough}
use Rattle.engine.proofs.Answers.{refused-on, given-on}

module _ (file buffer : List ℕ) where
  -- the two claims of an answer and the buffer that it leaves
  pub record Claims (a : Result ℕ Refusal) (after : List ℕ) : Type 0 where
    pub result_value : says a ≡ report_answered file buffer
    pub text_after : after ≡ report_leaves file buffer

  -- the report of the file, or its refusal
  abbrev file_text : Answer (List ℕ)
  file_text = accepted file >>= λ N. given (report_text N)

  from-refused : (r : Refusal) → refused (refusal_number r) (refusal_record r) ≡ reported file buffer → Claims (Err r) buffer
  unfolding report_answered report_leaves written
  from-refused r e = record { result_value = ap (λ x. x >>= λ text. given (length text)) e; text_after = ap (λ x. written x buffer) e }

  pub short-refused : length buffer < 32768 → Claims (Err ShortBuffer) buffer
  unfolding reported
  short-refused h = from-refused ShortBuffer (sym (lent-short 32768 buffer file_text h))

  module _ (h : 32768 ≤ length buffer) where
    reported-is : file_text ≡ reported file buffer
    unfolding reported
    reported-is = sym (lent-enough 32768 buffer file_text h)

    pub file-refused : (r : Refusal) → refused (refusal_number r) (refusal_record r) ≡ accepted file → Claims (Err r) buffer
    file-refused r e = from-refused r (refused-on file (λ N. given (report_text N)) e ∙ reported-is)

    pub file-reported : (N : Network) → given N ≡ accepted file → (n : ℕ) (after : List ℕ) → n ≡ length (report_text N)
        → after ≡ report_text N ++ drop (length (report_text N)) buffer → Claims (Ok n) after
    unfolding report_answered report_leaves written
    file-reported N a n after p q =
        let t : given (report_text N) ≡ reported file buffer = given-on file (λ N. given (report_text N)) a ∙ reported-is in
        record { result_value = ap (λ x. given x) p ∙ ap (λ x. x >>= λ text. given (length text)) t; text_after = q ∙ ap (λ x. written x buffer) t }
