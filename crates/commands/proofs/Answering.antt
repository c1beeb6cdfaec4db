-- From what a call answers to the text that its command leaves.
use Rattle.std.specs.Prelude.{◌≡◌, ℕ, ◌*◌, ◌≤◌, List, [], ◌∷◌, length, take, drop, Option, Result, Ok, Err}
use Rattle.std.proofs.Common.{sym, ap, ◌∙◌, subst, arith, length-append}
use Rattle.std.proofs.lemmas.List.{take_at}
use Rattle.model.specs.Answer.{Answer, given, refused, refusal_number, refusal_record, ◌>>=◌, says}
use Rattle.model.specs.Network.{Network}
use Rattle.model.specs.Rules.{accepted}
use Rattle.model.specs.Segments.{breaker_ends, segment_table}
use Rattle.model.specs.Text.{printed_line, report_text, line_x}
use Rattle.model.specs.Calls.{checked, impact_answered, totalled, ceiling_answered, written, reported, report_answered, report_leaves, segmented, segments_answered, segments_leaves, text_or_x}
use Rattle.model.specs.Commands.{line_k, line_i, totals_line, line_m, segments_text, commanded}
use Rattle.model.specs.declared.Command.{Command}
use Rattle.model.specs.declared.Refusal.{Refusal}
use Rattle.model.specs.declared.Totals.{Totals}
use Rattle.theory.specs.Segments.{table-length}
use Rattle.engine.proofs.Lending.{lent-enough}
use Rattle.text.specs.Over.{Written}
use Rattle.plans.specs.Left.{text_in, Fits, Left}
use Rattle.commands.specs.Told.{Told}
use Rattle.std.specs.Result.{result_err}
use Rattle.plans.proofs.Planning.{written-left}
use Rattle.segment_rows.specs.Rows.{table_text}
use Rattle.segment_rows.proofs.Entries.{table-rows}

-- a refusal of a call, as its number and record
abbrev Refused : {A : Type 0} → Refusal → Answer A → Type 0
Refused r a = refused (refusal_number r) (refusal_record r) ≡ a

-- a refusal is left as it is
refusal-left : {A : Type 0} {a : Answer A} (f : A → List ℕ) (r : Refusal) (out : List ℕ) → Refused r a → Left (a >>= λ x. given (f x)) (Err r) out
refusal-left f r out e = (ap (λ a. a >>= λ x. given (f x)) e, tt)

-- and so is the text of what is given
given-left : {A : Type 0} {a : Answer A} (f : A → List ℕ) (x : A) (old new : List ℕ) (n : ℕ) → given x ≡ a → Written (f x) old new n → Left (a >>= λ x. given (f x)) (Ok n) new
given-left f x old new n e w = let l = written-left (f x) old new n w in (l.0 ∙ ap (λ a. a >>= λ x. given (f x)) e, l.1)

-- the error of what is left says whether there is a refusal, and which
pub left-told : (r : Result ℕ Refusal) (told : Option Refusal) (a : Answer (List ℕ)) (out : List ℕ) → text_in r out ≡ a → told ≡ result_err r → Told told a
left-told (Ok n) told a out e p = subst (λ t. Told t a) (sym p) (take n out, sym e)
left-told (Err r) told a out e p = subst (λ t. Told t a) (sym p) (sym e)

module _ (file out : List ℕ) (r : Refusal) where
  pub check-refused : Refused r (checked file) → Left (commanded Command.Check file) (Err r) out
  unfolding commanded
  check-refused e = refusal-left (λ u. line_k) r out e

  pub impact-refused : (line : ℕ) → Refused r (impact_answered file line) → Left (commanded (Command.Impact line) file) (Err r) out
  unfolding commanded
  impact-refused line e = refusal-left (λ x. line_i line x) r out e

  pub total-refused : Refused r (totalled file) → Left (commanded Command.Total file) (Err r) out
  unfolding commanded
  total-refused e = refusal-left (λ t. totals_line t) r out e

  pub ceiling-refused : (p q : ℕ) → Refused r (ceiling_answered p q) → Left (commanded (Command.Ceiling p q) file) (Err r) out
  unfolding commanded
  ceiling-refused p q e = refusal-left (λ s. line_m p q s) r out e

module _ (file old new : List ℕ) (n : ℕ) where
  pub check-left : given tt ≡ checked file → Written (printed_line 75 []) old new n → Left (commanded Command.Check file) (Ok n) new
  unfolding commanded line_k
  check-left e w = given-left (λ u. line_k) tt old new n e w

  pub impact-left : (line c : ℕ) → given c ≡ impact_answered file line → Written (printed_line 73 (line ∷ c ∷ [])) old new n → Left (commanded (Command.Impact line) file) (Ok n) new
  unfolding commanded line_i
  impact-left line c e w = given-left (λ x. line_i line x) c old new n e w

  pub total_left : (t : Totals) → given t ≡ totalled file → Written (printed_line 65 (t.total ∷ t.figure ∷ [])) old new n → Left (commanded Command.Total file) (Ok n) new
  unfolding commanded totals_line
  total_left t e w = given-left (λ t. totals_line t) t old new n e w

  pub ceiling-left : (p q s : ℕ) → given s ≡ ceiling_answered p q → Written (printed_line 77 (p ∷ q ∷ s ∷ [])) old new n → Left (commanded (Command.Ceiling p q) file) (Ok n) new
  unfolding commanded line_m
  ceiling-left p q s e w = given-left (λ s. line_m p q s) s old new n e w

-- a number that is given is no refusal
pub given-not : {n number place : ℕ} → given n ≡ refused number place → ⊥
given-not q = let z : ◌≡◌ {A = ℕ} 0 1 = cc in omega arith

value : Answer ℕ → ℕ
value (given n) = n
value (refused number place) = number

-- a refusal is one of text as well
as_text : Answer ℕ → Answer (List ℕ)
as_text (given n) = given []
as_text (refused number place) = refused number place

-- the length that Report answers is that of the text which the buffer begins with
report-text : (buffer after : List ℕ) (r : Result ℕ Refusal) (a : Answer (List ℕ)) → says r ≡ (a >>= λ text. given (length text)) → after ≡ written a buffer → Left a r after
unfolding written value as_text
report-text buffer after (Ok n) (given text) e p = written-left text buffer after n (ap value e, p)
report-text buffer after (Ok n) (refused m i) e p = absurd (given-not e)
report-text buffer after (Err r) (given text) e p = absurd (given-not (sym e))
report-text buffer after (Err r) (refused k j) e p = (ap as_text e, tt)

pub report-left : (file buffer after : List ℕ) (r : Result ℕ Refusal) → 32768 ≤ length buffer → says r ≡ report_answered file buffer → after ≡ report_leaves file buffer → Left (commanded Command.Report file) r after
unfolding report_answered report_leaves reported commanded
report-left file buffer after r h e p =
    let text : Answer (List ℕ) = accepted file >>= λ N. given (report_text N) in
    let s : reported file buffer ≡ text = lent-enough 32768 buffer text h in
    report-text buffer after r text (e ∙ ap (λ a. a >>= λ text. given (length text)) s) (p ∙ ap (λ a. written a buffer) s)

-- the segment table in its buffer
module _ (file buffer : List ℕ) (h : 7680 ≤ length buffer) where
  not-lent : segmented file buffer ≡ accepted file
  unfolding segmented
  not-lent = lent-enough 7680 buffer (accepted file) h

  pub segments-refused : (r : Refusal) (out : List ℕ) → Refused r (segments_answered file buffer) → Left (commanded Command.Segments file) (Err r) out
  unfolding segments_answered commanded as_text
  segments-refused r out k = go (accepted file) (k ∙ ap (λ x. x >>= λ N. given (length (breaker_ends N))) not-lent)
    where
      go : (x : Answer Network) → Refused r (x >>= λ N. given (length (breaker_ends N))) → Left (x >>= λ N. given (segments_text N)) (Err r) out
      go (given N) q = absurd (given-not (sym q))
      go (refused m j) q = (ap as_text q, tt)

  module _ (n : ℕ) (table : List ℕ) (k : given n ≡ segments_answered file buffer) (l : table ≡ segments_leaves file buffer) where
    counted : given n ≡ (accepted file >>= λ N. given (length (breaker_ends N)))
    unfolding segments_answered
    counted = k ∙ ap (λ x. x >>= λ N. given (length (breaker_ends N))) not-lent

    holds : table ≡ written (accepted file >>= λ N. given (segment_table N)) buffer
    unfolding segments_leaves
    holds = l ∙ ap (λ x. written (x >>= λ N. given (segment_table N)) buffer) not-lent

    pub segments-fit : 5 * n ≤ length table
    unfolding written value
    segments-fit = go (accepted file) counted holds
      where
        go : (x : Answer Network) → given n ≡ (x >>= λ N. given (length (breaker_ends N))) → table ≡ written (x >>= λ N. given (segment_table N)) buffer → 5 * n ≤ length table
        go (given N) q p = omega (arith, ap value q, ap length p, length-append (segment_table N) (drop (length (segment_table N)) buffer), table-length N)
        go (refused m j) q p = absurd (given-not q)

    pub segments-left : (old new : List ℕ) (m : ℕ) → Written (table_text n table) old new m → Left (commanded Command.Segments file) (Ok m) new
    unfolding commanded written value
    segments-left old new m w = go (accepted file) counted holds
      where
        t : Left (given (table_text n table)) (Ok m) new
        t = written-left (table_text n table) old new m w

        go : (x : Answer Network) → given n ≡ (x >>= λ N. given (length (breaker_ends N))) → table ≡ written (x >>= λ N. given (segment_table N)) buffer → Left (x >>= λ N. given (segments_text N)) (Ok m) new
        go (given N) q p = (t.0 ∙ ap (λ s. given s) (table-rows N n table _ (ap value q) p), t.1)
        go (refused i j) q p = absurd (given-not q)

-- what is printed of an answer
pub text-printed : (a : Result ℕ Refusal) (n : ℕ) (out : List ℕ) → Fits a out → a ≡ Ok n → (take n out ≡ text_or_x (text_in a out)) × (n ≤ length out)
unfolding text_or_x
text-printed a n out f e = (ap (λ x. text_or_x (text_in x out)) (sym e), subst (λ x. Fits x out) e f)

pub refusal-printed : (a : Result ℕ Refusal) (r : Refusal) (n : ℕ) (out after : List ℕ) → a ≡ Err r → Written (printed_line 88 (refusal_number r ∷ refusal_record r ∷ [])) out after n
    → (take n after ≡ text_or_x (text_in a out)) × (n ≤ length after)
unfolding text_or_x line_x
refusal-printed a r n out after e w =
    let line : List ℕ = printed_line 88 (refusal_number r ∷ refusal_record r ∷ []) in
    (ap (take n) w.1 ∙ take_at line (drop (length line) out) n (sym w.0) ∙ ap (λ x. text_or_x (text_in x out)) (sym e), omega (arith, w.0, ap length w.1, length-append line (drop (length line) out)))

-- a command that is this one
pub at-command : (file out : List ℕ) (r : Result ℕ Refusal) (c d : Command) → c ≡ d → Left (commanded d file) r out → Left (commanded c file) r out
at-command file out r c d e l = (l.0 ∙ ap (λ x. commanded x file) (sym e), l.1)
