-- The records of a network file, and the refusals 1 to 3 ("A network file").
use Rattle.std.specs.Prelude.{ℕ, zero, suc, ◌+◌, Bool, true, false, ◌&&◌, ◌||◌, List, [], ◌∷◌, map, length, get_or, leb, ltb, eqb}
use Rattle.std.specs.Prelude.{Option, None, Some}
use Rattle.model.specs.Lists.{numbered}
use Rattle.model.specs.Answer.{Answer, given, ◌>>=◌, refuse_length, refuse_form, refuse_range, refuse_place}
use Rattle.model.specs.Format.{Record, records_of, form_of}
use Rattle.model.specs.Ranges.{row_n, row_s, row_l, row_p, all_in_range}
use Rattle.model.specs.declared.Range.{Range}
use Rattle.model.specs.declared.Head.{Head}

-- S,role,customers. Role 1 is an HV station, 0 an MV station.
pub record Station : Type 0 where
  pub role : ℕ
  pub customers : ℕ

-- L,weight,from,to,state1,state2. End 1 is at station `from`, end 2 at `to`. State 0 is plain, 1 a breaker, 2 open.
pub record Line : Type 0 where
  pub weight : ℕ
  pub from : ℕ
  pub to : ℕ
  pub state1 : ℕ
  pub state2 : ℕ

-- P,line,end,cost,hours. `side` is the number of the end, 1 or 2.
pub record Place : Type 0 where
  pub line : ℕ
  pub side : ℕ
  pub cost : ℕ
  pub hours : ℕ

-- what a file says; the first S is station 1, the first L line 1, the first P place 1
pub record Network : Type 0 where
  pub head : Head
  pub stations : List Station
  pub lines : List Line
  pub places : List Place

-- number i of a record, counted from 0
abbrev pub value : List ℕ → ℕ → ℕ
value vs i = get_or vs i 0

-- a kind of record: its letter, and the range of each number behind it
pub record Kind : Type 0 where
  pub letter : ℕ
  pub ranges : List Range

unfoldable pub kind_n : Kind
unfolding row_n
kind_n = record { letter = 78; ranges = row_n }

unfoldable pub kind_s : Kind
unfolding row_s
kind_s = record { letter = 83; ranges = row_s }

unfoldable pub kind_l : Kind
unfolding row_l
kind_l = record { letter = 76; ranges = row_l }

unfoldable pub kind_p : Kind
unfolding row_p
kind_p = record { letter = 80; ranges = row_p }

-- the numbers of record `i` in a file of so many stations and lines: 1 for its form, then 2 for its values
unfoldable pub check_values : (stations lines i : ℕ) → Kind → Option (List ℕ) → Answer (List ℕ)
unfolding all_in_range
check_values stations lines i k None = refuse_form i
check_values stations lines i k (Some vs) =
    elim (all_in_range stations lines (value vs 0) k.ranges vs) [ true ↦ given vs | false ↦ refuse_range i ]

unfoldable pub read_record : (stations lines i : ℕ) → Kind → Record → Answer (List ℕ)
unfolding check_values form_of
read_record stations lines i k r = check_values stations lines i k (form_of k.letter (length k.ranges) r)

-- the numbers of the next `count` records, all of one kind, the first of them record `i`; and the records behind them.
-- A record that is absent is refused as one of the wrong form is.
unfoldable pub read_records : (stations lines i : ℕ) → Kind → ℕ → List Record → Answer (List (List ℕ) × List Record)
unfolding read_record
read_records stations lines i k zero rs = given ([], rs)
read_records stations lines i k (suc count) [] = refuse_form i
read_records stations lines i k (suc count) (r ∷ rs) =
    read_record stations lines i k r >>= λ vs. read_records stations lines (i + 1) k count rs >>= λ p. given (vs ∷ p.0, p.1)

unfoldable pub head_of : List ℕ → Head
head_of vs = record {
  stations = value vs 0;
  lines = value vs 1;
  minutes = value vs 2;
  series = value vs 3;
  adds = value vs 4;
  money = value vs 5;
  hours = value vs 6;
  visits = value vs 7;
}

unfoldable pub station_of : List ℕ → Station
station_of vs = record { role = value vs 0; customers = value vs 1 }

unfoldable pub line_of : List ℕ → Line
line_of vs = record { weight = value vs 0; from = value vs 1; to = value vs 2; state1 = value vs 3; state2 = value vs 4 }

unfoldable pub place_of : List ℕ → Place
place_of vs = record { line = value vs 0; side = value vs 1; cost = value vs 2; hours = value vs 3 }

-- what stands for a line that is not there: both its ends are open
abbrev pub no_line : Line
no_line = record { weight = 0; from = 0; to = 0; state1 = 2; state2 = 2 }

-- what stands for a place that is not there: it is before every place
abbrev pub no_place : Place
no_place = record { line = 0; side = 0; cost = 0; hours = 0 }

-- the state of an end of a line; an end that is not there counts as open
unfoldable pub state_at : Line → ℕ → ℕ
state_at l zero = 2
state_at l (suc zero) = l.state1
state_at l (suc (suc zero)) = l.state2
state_at l (suc (suc (suc n))) = 2

-- `q` comes after `p` by line, then end
unfoldable pub comes_after : Place → Place → Bool
comes_after p q = ltb p.line q.line || (eqb p.line q.line && ltb p.side q.side)

-- refusal 3: the place that follows `before`, with `n` places in front of it, is not the 65th, comes after `before`, and is on a plain end
unfoldable pub well_placed : List Line → ℕ → Place → Place → Bool
unfolding comes_after state_at numbered
well_placed ls n before p = ltb n 64 && (comes_after before p && eqb (state_at (numbered no_line ls p.line) p.side) 0)

-- the places of the records from record `i` on, with `n` places in front of them, the last of these `before`
unfoldable pub read_places : Head → List Line → ℕ → ℕ → Place → List Record → Answer (List Place)
unfolding read_record kind_p well_placed place_of
read_places h ls i n before [] = given []
read_places h ls i n before (r ∷ rs) =
    read_record h.stations h.lines i kind_p r >>= λ vs.
    let p : Place = place_of vs in
    elim (well_placed ls n before p) [
      | true ↦ read_places h ls (i + 1) (n + 1) p rs >>= λ ps. given (p ∷ ps)
      | false ↦ refuse_place i
    ]

-- one N, then its S, its L, then P records
unfoldable pub read_after_head : Head → List Record → Answer Network
unfolding read_records read_places kind_s kind_l station_of line_of
read_after_head h rs =
    read_records h.stations h.lines 2 kind_s h.stations rs >>= λ s.
    read_records h.stations h.lines (2 + h.stations) kind_l h.lines s.1 >>= λ l.
    let ls : List Line = map line_of l.0 in
    read_places h ls (2 + h.stations + h.lines) 0 no_place l.1 >>= λ ps.
    given (record { head = h; stations = map station_of s.0; lines = ls; places = ps })

unfoldable pub read_file : List Record → Answer Network
unfolding read_record kind_n head_of read_after_head
read_file [] = refuse_form 1
read_file (r ∷ rs) = read_record 0 0 1 kind_n r >>= λ vs. read_after_head (head_of vs) rs

-- the network of a file's bytes, or refusal 1, 2 or 3: the length first, then record by record
unfoldable pub network_of : List ℕ → Answer Network
unfolding read_file records_of
network_of file = elim (leb (length file) 32768) [ true ↦ read_file (records_of file) | false ↦ refuse_length ]
