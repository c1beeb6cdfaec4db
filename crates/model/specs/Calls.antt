-- The seven calls: what each answers and what it leaves in a lent buffer, for every input ("Calls", "Refusals and their places").
-- A contract states that what the code answers says (`says`, Answer) what is defined here.
use Rattle.std.specs.Prelude.{ℕ, true, false, not, ◌&&◌, List, ◌++◌, length, drop, leb, ltb}
use Rattle.model.specs.Answer.{Answer, given, refused, ◌>>=◌, refuse_buffer, refuse_number}
use Rattle.model.specs.Network.{Network}
use Rattle.model.specs.Rules.{accepted}
use Rattle.model.specs.Outage.{impact, total, figure}
use Rattle.model.specs.Walk.{Found, search}
use Rattle.model.specs.Text.{report_text, line_x}
use Rattle.model.specs.Segments.{breaker_ends, segment_table}
use Rattle.model.specs.Ceiling.{set_count}
use Rattle.model.specs.declared.Totals.{Totals}
use Rattle.model.specs.declared.Outcome.{Outcome}

-- Check answers accepted.
unfoldable pub checked : List ℕ → Answer (Unit {0})
unfolding accepted
checked file = accepted file >>= λ N. given tt

-- Impact takes a line number. Last of all refusals, a number outside 1–lines.
unfoldable pub impact_of : ℕ → Network → Answer ℕ
unfolding impact
impact_of l N = elim (leb 1 l && leb l (length N.lines)) [ true ↦ given (impact N l) | false ↦ refuse_number ]

unfoldable pub impact_answered : List ℕ → ℕ → Answer ℕ
unfolding accepted impact_of
impact_answered file l = accepted file >>= λ N. impact_of l N

-- Total gives the total and the figure.
unfoldable pub totalled : List ℕ → Answer Totals
unfolding accepted total figure
totalled file = accepted file >>= λ N. given (record { total = total N; figure = figure N })

-- A lent buffer after a call: what is given stands at its start and the rest stays. A refusal writes nothing.
unfoldable pub written : Answer (List ℕ) → List ℕ → List ℕ
written (given xs) buffer = xs ++ drop (length xs) buffer
written (refused number place) buffer = buffer

-- A call that is lent a buffer refuses one of fewer than `least` elements, before all else.
unfoldable pub lent : {A : Type 0} → ℕ → List ℕ → Answer A → Answer A
lent least buffer answer = elim (ltb (length buffer) least) [ true ↦ refuse_buffer | false ↦ answer ]

-- Search answers finished or spent, the number of members, their total and the visits.
abbrev pub outcome_of : Found → Outcome
outcome_of f = record { finished = not f.spent; members = length f.members; total = f.best; visits = f.visits }

unfoldable pub searched : List ℕ → List ℕ → Answer Found
unfolding lent accepted search
searched file buffer = lent 16 buffer (accepted file >>= λ N. given (search N))

unfoldable pub search_answered : List ℕ → List ℕ → Answer Outcome
unfolding searched
search_answered file buffer = searched file buffer >>= λ f. given (outcome_of f)

-- It writes the members' place numbers, rising, at the start of the buffer.
unfoldable pub search_leaves : List ℕ → List ℕ → List ℕ
unfolding searched written
search_leaves file buffer = written (searched file buffer >>= λ f. given f.members) buffer

-- Report writes text and answers its length in bytes.
unfoldable pub reported : List ℕ → List ℕ → Answer (List ℕ)
unfolding lent accepted report_text
reported file buffer = lent 32768 buffer (accepted file >>= λ N. given (report_text N))

unfoldable pub report_answered : List ℕ → List ℕ → Answer ℕ
unfolding reported
report_answered file buffer = reported file buffer >>= λ text. given (length text)

unfoldable pub report_leaves : List ℕ → List ℕ → List ℕ
unfolding reported written
report_leaves file buffer = written (reported file buffer) buffer

-- Segments writes the segment table and answers how many entries it has.
unfoldable pub segmented : List ℕ → List ℕ → Answer Network
unfolding lent accepted
segmented file buffer = lent 7680 buffer (accepted file)

unfoldable pub segments_answered : List ℕ → List ℕ → Answer ℕ
unfolding segmented breaker_ends
segments_answered file buffer = segmented file buffer >>= λ N. given (length (breaker_ends N))

unfoldable pub segments_leaves : List ℕ → List ℕ → List ℕ
unfolding segmented segment_table written
segments_leaves file buffer = written (segmented file buffer >>= λ N. given (segment_table N)) buffer

-- Ceiling takes 0–64 places and 0–16 additions, and refuses other numbers as Impact does.
unfoldable pub ceiling_answered : ℕ → ℕ → Answer ℕ
unfolding set_count
ceiling_answered places additions = elim (leb places 64 && leb additions 16) [ true ↦ given (set_count places additions) | false ↦ refuse_number ]

-- What the program `breakers` prints of an answer: its text, or the line of its refusal.
unfoldable pub text_or_x : Answer (List ℕ) → List ℕ
unfolding line_x
text_or_x (given text) = text
text_or_x (refused number place) = line_x number place

-- What the program `breakers` prints for a file: its report, or the line of its refusal.
unfoldable pub printed : List ℕ → List ℕ
unfolding text_or_x accepted report_text
printed file = text_or_x (accepted file >>= λ N. given (report_text N))
