-- The rows of a segment table in a buffer.
use Rattle.std.specs.Prelude.{ℕ, ◌*◌, take, drop}
use mathlib.Core.List.{List, [], ◌∷◌, ◌++◌, flat_map}
use Rattle.model.specs.Lists.{numbers}
use Rattle.model.specs.Text.{printed_line}

-- T and the five numbers of entry i, counted from 0
unfoldable pub entry_row : List ℕ → ℕ → List ℕ
unfolding printed_line
entry_row table i = printed_line 84 (take 5 (drop (5 * i) table))

-- the rows of the first n entries
unfoldable pub entry_rows : ℕ → List ℕ → List ℕ
unfolding flat_map entry_row numbers
entry_rows n table = flat_map (λ i. entry_row table i) (numbers 0 n)

-- the G row and those rows
unfoldable pub table_text : ℕ → List ℕ → List ℕ
unfolding printed_line entry_rows
table_text n table = printed_line 71 (n ∷ []) ++ entry_rows n table
