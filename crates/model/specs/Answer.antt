-- Answers, and the table of refusals ("Refusals and their places").
use Rattle.std.specs.Prelude.{ℕ, Result, Ok, Err}
use Rattle.model.specs.declared.Refusal.{Refusal}
use Rattle.model.specs.declared.Refusal.TheVariants.{TooLong, Malformed, OutOfRange, NoSuchNumber, Misplaced, OpenLine, PlainAtHv, Ring, Joined, Unsupplied, OverSeries, ShortBuffer}

-- what is asked for, or a refusal's number and record
pub data Answer (A : Type 0) : Type 0 where
  given : A → Answer A
  refused : ℕ → ℕ → Answer A

infixl 10 ◌>>=◌
-- go on with what is given; a refusal stays as it is
abbrev pub ◌>>=◌ : {A B : Type 0} → Answer A → (A → Answer B) → Answer B
given a >>= next = next a
refused number place >>= next = refused number place

-- The rows of the table. Those that name a record take its number.
module _ {A : Type 0} where
  -- 10: Search or Report is lent too short a buffer
  abbrev pub refuse_buffer : Answer A
  refuse_buffer = refused 10 0

  -- 1: over 32,768 bytes
  abbrev pub refuse_length : Answer A
  refuse_length = refused 1 0

  -- 1: wrong kind or form, unclosed, absent or extra
  abbrev pub refuse_form : ℕ → Answer A
  refuse_form place = refused 1 place

  -- 2: a value is out of its range
  abbrev pub refuse_range : ℕ → Answer A
  refuse_range place = refused 2 place

  -- 3: a place out of order, on a breaker or open end, or the 65th
  abbrev pub refuse_place : ℕ → Answer A
  refuse_place place = refused 3 place

  -- 4: a line with both ends open
  abbrev pub refuse_open_line : ℕ → Answer A
  refuse_open_line place = refused 4 place

  -- 5: a plain end at an HV station
  abbrev pub refuse_plain_at_hv : ℕ → Answer A
  refuse_plain_at_hv place = refused 5 place

  -- 6: a path returns to its start
  abbrev pub refuse_return : Answer A
  refuse_return = refused 6 0

  -- 7: two HV stations are joined
  abbrev pub refuse_joined : Answer A
  refuse_joined = refused 7 0

  -- 8: a station without supply
  abbrev pub refuse_unsupplied : ℕ → Answer A
  refuse_unsupplied place = refused 8 place

  -- 9: too many breakers in series
  abbrev pub refuse_series : Answer A
  refuse_series = refused 9 0

  -- 2, record 0: the line number of Impact, or a number of Ceiling, is outside its range
  abbrev pub refuse_number : Answer A
  refuse_number = refused 2 0

-- ── what the code answers ──

-- a refusal's number and record, by the table
abbrev pub refusal_number : Refusal → ℕ
refusal_number TooLong = 1
refusal_number (Malformed place) = 1
refusal_number (OutOfRange place) = 2
refusal_number NoSuchNumber = 2
refusal_number (Misplaced place) = 3
refusal_number (OpenLine place) = 4
refusal_number (PlainAtHv place) = 5
refusal_number Ring = 6
refusal_number Joined = 7
refusal_number (Unsupplied place) = 8
refusal_number OverSeries = 9
refusal_number ShortBuffer = 10

abbrev pub refusal_record : Refusal → ℕ
refusal_record TooLong = 0
refusal_record (Malformed place) = place
refusal_record (OutOfRange place) = place
refusal_record NoSuchNumber = 0
refusal_record (Misplaced place) = place
refusal_record (OpenLine place) = place
refusal_record (PlainAtHv place) = place
refusal_record Ring = 0
refusal_record Joined = 0
refusal_record (Unsupplied place) = place
refusal_record OverSeries = 0
refusal_record ShortBuffer = 0

-- what is given, or the number and the record of the refusal
abbrev pub says : {A : Type 0} → Result A Refusal → Answer A
says (Ok a) = given a
says (Err r) = refused (refusal_number r) (refusal_record r)
