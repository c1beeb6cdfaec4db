-- The commands of the program `breakers`: what the words behind its name ask for, and what it prints for each command, the call's
-- answer as rows of text or the line of its refusal.
use Rattle.std.specs.Prelude.{ℕ, ◌-◌, Bool, true, false, ◌&&◌, length, eqb, ltb}
use Prim.Native.Char.{code}
use Prim.Native.String.{String, [] as []ˢ, ◌∷◌ as ◌∷ˢ◌}
use Rattle.std.specs.Prelude.{Option, None, Some, Result, Ok, Err}
use mathlib.Core.List.{List, [], ◌∷◌, ◌++◌, flat_map}
use Rattle.model.specs.Answer.{Answer, given, ◌>>=◌}
use Rattle.model.specs.Format.{number_of}
use Rattle.model.specs.Network.{Network}
use Rattle.model.specs.Rules.{accepted}
use Rattle.model.specs.Walk.{Found, search}
use Rattle.model.specs.Segments.{breaker_ends, segment}
use Rattle.model.specs.Text.{printed_line, line_c, line_b, report_text}
use Rattle.model.specs.Calls.{checked, impact_answered, totalled, ceiling_answered, text_or_x}
use Rattle.model.specs.declared.Command.{Command}
use Rattle.model.specs.declared.Word.{Word}
use Rattle.model.specs.declared.Request.{Request}
use Rattle.model.specs.declared.Misuse.{Misuse}
use Rattle.model.specs.declared.Totals.{Totals}

-- ── the rows of text that the report does not have, or has among others ──

-- K: the file is accepted
unfoldable pub line_k : List ℕ
unfolding printed_line
line_k = printed_line 75 []

-- I,line,impact
unfoldable pub line_i : ℕ → ℕ → List ℕ
unfolding printed_line
line_i l customers = printed_line 73 (l ∷ customers ∷ [])

-- A,total,figure
unfoldable pub totals_line : Totals → List ℕ
unfolding printed_line
totals_line t = printed_line 65 (t.total ∷ t.figure ∷ [])

-- what a search found: the report's C row, and its B row for each member
unfoldable pub plan_text : Network → List ℕ
unfolding flat_map line_c line_b search
plan_text N =
    let f : Found = search N in
    line_c f ++ flat_map (λ p. line_b N p) f.members

-- G,entries, then T,line,end,weights,customers,product for each entry of the segment table
unfoldable pub segments_text : Network → List ℕ
unfolding printed_line flat_map segment breaker_ends
segments_text N = printed_line 71 (length (breaker_ends N) ∷ []) ++ flat_map (λ e. printed_line 84 (segment N e)) (breaker_ends N)

-- M,places,additions,sets
unfoldable pub line_m : ℕ → ℕ → ℕ → List ℕ
unfolding printed_line
line_m places additions sets = printed_line 77 (places ∷ additions ∷ sets ∷ [])

-- ── what a command answers and prints ──

unfoldable pub commanded : Command → List ℕ → Answer (List ℕ)
unfolding accepted report_text checked line_k impact_answered line_i totalled totals_line plan_text segments_text ceiling_answered line_m
commanded Command.Report file = accepted file >>= λ N. given (report_text N)
commanded Command.Check file = checked file >>= λ u. given line_k
commanded (Command.Impact l) file = impact_answered file l >>= λ customers. given (line_i l customers)
commanded Command.Total file = totalled file >>= λ t. given (totals_line t)
commanded Command.Search file = accepted file >>= λ N. given (plan_text N)
commanded Command.Segments file = accepted file >>= λ N. given (segments_text N)
commanded (Command.Ceiling places additions) file = ceiling_answered places additions >>= λ sets. given (line_m places additions sets)

unfoldable pub prints : Command → List ℕ → List ℕ
unfolding text_or_x commanded
prints command file = text_or_x (commanded command file)

-- ── what the words behind the program's name ask for ──

-- the bytes of a text
unfoldable pub bytes : String → List ℕ
bytes []ˢ = []
bytes (c ∷ˢ s) = code c ∷ bytes s

-- two words are the same
unfoldable pub same_word : List ℕ → List ℕ → Bool
same_word [] [] = true
same_word [] (y ∷ ys) = false
same_word (x ∷ xs) [] = false
same_word (x ∷ xs) (y ∷ ys) = eqb x y && same_word xs ys

-- the first word of a list, with what each stands for, that is this one; else something else
unfoldable pub look_up : List (String × Word) → Word → List ℕ → Word
unfolding same_word bytes
look_up [] other w = other
look_up (name ∷ names) other w = elim (same_word w (bytes name.0)) [ true ↦ name.1 | false ↦ look_up names other w ]

-- the words for what is asked of one file without a number
unfoldable pub plain_words : List (String × Word)
plain_words = ("report", Word.Report) ∷ ("check", Word.Check) ∷ ("total", Word.Total) ∷ ("search", Word.Search) ∷ ("segments", Word.Segments) ∷ []

-- the words for what takes numbers
unfoldable pub number_words : List (String × Word)
number_words = ("impact", Word.Impact) ∷ ("ceiling", Word.Ceiling) ∷ []

-- the words for what reads no file
unfoldable pub help_words : List (String × Word)
help_words = ("help", Word.Help) ∷ ("--help", Word.Help) ∷ ("-h", Word.Help) ∷ ("version", Word.Version) ∷ []

unfoldable pub word_of : List ℕ → Word
unfolding look_up plain_words number_words help_words
word_of w = look_up plain_words (look_up number_words (look_up help_words Word.Other w) w) w

-- `left` words are left. A request that takes none of them
unfoldable pub alone : Request → ℕ → Result Request Misuse
alone r left = elim (eqb left 0) [ true ↦ Ok r | false ↦ Err Misuse.TooMany ]

-- a command whose file is named by the word that is left, number `next`, or comes from standard input
unfoldable pub with_file : Command → ℕ → ℕ → Result Request Misuse
with_file command next left =
    elim (eqb left 0) [ true ↦ Ok (Request.Ask command None) | false ↦ elim (eqb left 1) [ true ↦ Ok (Request.Ask command (Some next)) | false ↦ Err Misuse.TooMany ] ]

-- impact LINE
unfoldable pub impact_asked : ℕ → Option ℕ → Result Request Misuse
unfolding with_file
impact_asked left None = elim (eqb left 0) [ true ↦ Err Misuse.NoNumber | false ↦ Err (Misuse.BadNumber 2) ]
impact_asked left (Some l) = elim (eqb left 0) [ true ↦ Err Misuse.NoNumber | false ↦ with_file (Command.Impact l) 3 (left - 1) ]

-- ceiling PLACES ADDITIONS
unfoldable pub sets_asked : ℕ → Option ℕ → Option ℕ → Result Request Misuse
unfolding alone
sets_asked left None additions = Err (Misuse.BadNumber 2)
sets_asked left (Some places) None = Err (Misuse.BadNumber 3)
sets_asked left (Some places) (Some additions) = alone (Request.Ask (Command.Ceiling places additions) None) (left - 2)

unfoldable pub ceiling_asked : ℕ → Option ℕ → Option ℕ → Result Request Misuse
unfolding sets_asked
ceiling_asked left places additions = elim (ltb left 2) [ true ↦ Err Misuse.NoNumber | false ↦ sets_asked left places additions ]

-- the first word names a command, or else, by itself, the file of a report
unfoldable pub asked : Word → ℕ → List ℕ → List ℕ → Result Request Misuse
unfolding alone with_file impact_asked ceiling_asked number_of
asked Word.Report left second third = with_file Command.Report 2 left
asked Word.Check left second third = with_file Command.Check 2 left
asked Word.Impact left second third = impact_asked left (number_of second)
asked Word.Total left second third = with_file Command.Total 2 left
asked Word.Search left second third = with_file Command.Search 2 left
asked Word.Segments left second third = with_file Command.Segments 2 left
asked Word.Ceiling left second third = ceiling_asked left (number_of second) (number_of third)
asked Word.Help left second third = alone Request.Help left
asked Word.Version left second third = alone Request.Version left
asked Word.Other left second third = elim (eqb left 0) [ true ↦ Ok (Request.Ask Command.Report (Some 1)) | false ↦ Err Misuse.Unknown ]

-- `count` words, and the first three of them; those that are not there do not matter
unfoldable pub requested : (count : ℕ) (first second third : List ℕ) → Result Request Misuse
unfolding asked word_of
requested count first second third =
    elim (eqb count 0) [
      | true ↦ Ok (Request.Ask Command.Report None)
      | false ↦ elim (ltb 3 count) [ true ↦ Err Misuse.TooMany | false ↦ asked (word_of first) (count - 1) second third ]
    ]
