-- Records, fields and numbers of a file ("A network file", its first paragraph).
use Rattle.std.specs.Prelude.{ℕ, ◌+◌, ◌*◌, ◌-◌, Bool, true, false, not, ◌&&◌, List, [], ◌∷◌, length, leb, eqb}
use Rattle.std.specs.Prelude.{Option, None, Some}
use Rattle.model.specs.Lists.{all}

-- the bytes that part records and fields
abbrev pub newline : ℕ
newline = 10

abbrev pub comma : ℕ
comma = 44

-- A record: the bytes up to a newline, without it. What stands after the last newline is a record that is not closed.
pub data Record : Type 0 where
  closed : List ℕ → Record
  unclosed : List ℕ → Record

-- one byte more at the front of the first record
unfoldable pub on_first_record : ℕ → List Record → List Record
on_first_record b [] = unclosed (b ∷ []) ∷ []
on_first_record b (closed r ∷ rs) = closed (b ∷ r) ∷ rs
on_first_record b (unclosed r ∷ rs) = unclosed (b ∷ r) ∷ rs

-- the records of a file
unfoldable pub records_of : List ℕ → List Record
unfolding on_first_record
records_of [] = []
records_of (b ∷ bs) = elim (eqb b newline) [ true ↦ closed [] ∷ records_of bs | false ↦ on_first_record b (records_of bs) ]

-- one byte more at the front of the first field
unfoldable pub on_first_field : ℕ → List (List ℕ) → List (List ℕ)
on_first_field b [] = (b ∷ []) ∷ []
on_first_field b (f ∷ fs) = (b ∷ f) ∷ fs

-- the fields of a record: its parts between the commas
unfoldable pub fields_of : List ℕ → List (List ℕ)
unfolding on_first_field
fields_of [] = [] ∷ []
fields_of (b ∷ bs) = elim (eqb b comma) [ true ↦ [] ∷ fields_of bs | false ↦ on_first_field b (fields_of bs) ]

-- a decimal digit, `0` to `9`
abbrev pub is_digit : ℕ → Bool
is_digit b = leb 48 b && leb b 57

-- some digit, and no leading zero except `0` itself
unfoldable pub no_leading_zero : List ℕ → Bool
no_leading_zero [] = false
no_leading_zero (d ∷ []) = true
no_leading_zero (d ∷ e ∷ ds) = not (eqb d 48)

-- the number that digits write, behind those that made n
unfoldable pub value_from : ℕ → List ℕ → ℕ
value_from n [] = n
value_from n (d ∷ ds) = value_from (n * 10 + (d - 48)) ds

-- the number of a field: at most 10 digits
unfoldable pub number_of : List ℕ → Option ℕ
unfolding no_leading_zero all value_from
number_of f =
    elim (no_leading_zero f && (leb (length f) 10 && all (λ b. is_digit b) f)) [ true ↦ Some (value_from 0 f) | false ↦ None ]

-- the numbers of fields, if each has one
unfoldable pub with_number : Option ℕ → Option (List ℕ) → Option (List ℕ)
with_number None ns = None
with_number (Some n) None = None
with_number (Some n) (Some ns) = Some (n ∷ ns)

unfoldable pub numbers_of : List (List ℕ) → Option (List ℕ)
unfolding with_number number_of
numbers_of [] = Some []
numbers_of (f ∷ fs) = with_number (number_of f) (numbers_of fs)

-- the numbers behind the kind, if the first field is just this letter and so many fields follow
unfoldable pub after_letter : ℕ → ℕ → List (List ℕ) → Option (List ℕ)
unfolding numbers_of
after_letter letter count [] = None
after_letter letter count ([] ∷ fs) = None
after_letter letter count ((k ∷ []) ∷ fs) = elim (eqb k letter && eqb (length fs) count) [ true ↦ numbers_of fs | false ↦ None ]
after_letter letter count ((k ∷ l ∷ ks) ∷ fs) = None

-- the numbers of a record of this kind: none where its kind or form is wrong, or it is not closed
unfoldable pub form_of : ℕ → ℕ → Record → Option (List ℕ)
unfolding after_letter fields_of
form_of letter count (closed r) = after_letter letter count (fields_of r)
form_of letter count (unclosed r) = None
