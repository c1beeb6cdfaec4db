-- Ceiling ("Calls", its last paragraph).
use Rattle.std.specs.Prelude.{ℕ, zero, suc, ◌+◌, map}
use Rattle.model.specs.Lists.{sum, numbers}

-- The binomial coefficient of a row and a column. Column 0 is 1; the rest of row 0 is 0; every other entry is the sum of the
-- one above and the one above to the left.
unfoldable pub binomial : ℕ → ℕ → ℕ
binomial row zero = 1
binomial zero (suc column) = 0
binomial (suc row) (suc column) = binomial row (suc column) + binomial row column

-- how many sets of at most `additions` of `places` places there are
unfoldable pub set_count : ℕ → ℕ → ℕ
unfolding sum numbers binomial
set_count places additions = sum (map (λ column. binomial places column) (numbers 0 (additions + 1)))
