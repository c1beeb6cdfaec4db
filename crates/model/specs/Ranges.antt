-- The ranges of a file's numbers ("A network file", the table of ranges).
use Rattle.std.specs.Prelude.{ℕ, Bool, true, false, ◌&&◌, List, [], ◌∷◌, leb, eqb}
use Rattle.model.specs.declared.Range.{Range}
use Rattle.model.specs.declared.Largest.{Largest}
use Rattle.model.specs.declared.Largest.TheVariants.{Number, Stations, Lines, NoneAtHv}

infix 90 ◌to◌
infix 90 ◌up_to◌
abbrev pub ◌up_to◌ : ℕ → Largest → Range
a up_to b = record { least = a; largest = b }

abbrev pub ◌to◌ : ℕ → ℕ → Range
a to b = a up_to Number b

-- each kind's row of least and largest values
unfoldable pub row_n : List Range
row_n = 1 to 512 ∷ 0 to 768 ∷ 0 to 1440 ∷ 1 to 8 ∷ 0 to 16 ∷ 0 to 100000000 ∷ 0 to 100000 ∷ 1 to 1000000000 ∷ []

unfoldable pub row_s : List Range
row_s = 0 to 1 ∷ 0 up_to NoneAtHv 20000 ∷ []

unfoldable pub row_l : List Range
row_l = 0 to 1000000 ∷ 1 up_to Stations ∷ 1 up_to Stations ∷ 0 to 2 ∷ 0 to 2 ∷ []

unfoldable pub row_p : List Range
row_p = 1 up_to Lines ∷ 1 to 2 ∷ 0 to 1000000 ∷ 0 to 1000 ∷ []

-- the rows in the order N, S, L, P
unfoldable pub rows : List (List Range)
unfolding row_n row_s row_l row_p
rows = row_n ∷ row_s ∷ row_l ∷ row_p ∷ []

-- the number that a largest value stands for, in a file of so many stations and lines, and in a record whose first number is `first`
unfoldable pub largest_of : (stations lines first : ℕ) → Largest → ℕ
largest_of stations lines first (Number n) = n
largest_of stations lines first Stations = stations
largest_of stations lines first Lines = lines
largest_of stations lines first (NoneAtHv n) = elim (eqb first 1) [ true ↦ 0 | false ↦ n ]

-- a value is in a range
unfoldable pub in_range : (stations lines first : ℕ) → Range → ℕ → Bool
unfolding largest_of
in_range stations lines first r v = leb r.least v && leb v (largest_of stations lines first r.largest)

-- each value is in its range
unfoldable pub all_in_range : (stations lines first : ℕ) → List Range → List ℕ → Bool
unfolding in_range
all_in_range stations lines first [] vs = true
all_in_range stations lines first (r ∷ rs) [] = true
all_in_range stations lines first (r ∷ rs) (v ∷ vs) = in_range stations lines first r v && all_in_range stations lines first rs vs
