-- A table of sums, 17 rows of 65 numbers: in row r, column q, the sum of the r largest of the savings behind the first q.
use Rattle.std.specs.Prelude.{ℕ, ◌≤◌, ◌<◌, ◌≡◌, List, [], length, get_or, take, drop}
use Rattle.model.specs.Lists.{sum}
use Rattle.model.specs.Walk.{largest}
use Rattle.theory.specs.Reading.{All}

-- every number is at most the largest total that a file can have
abbrev pub Small : List ℕ → Type 0
Small xs = All (λ x. x ≤ 7864320000000000) xs

pub record IsTable (sums : List (List ℕ)) : Type 0 where
  pub rows : length sums ≡ 17
  pub columns : (r : ℕ) → r < 17 → length (get_or sums r []) ≡ 65

-- the number in row r, column q
abbrev pub sum_at : List (List ℕ) → ℕ → ℕ → ℕ
sum_at sums r q = get_or (get_or sums r []) q 0

-- column q has the sums of the first numbers of a list, and the others are as they were
pub record Column (xs : List ℕ) (q : ℕ) (old new : List (List ℕ)) : Type 0 where
  pub written : (r : ℕ) → r ≤ 16 → sum_at new r q ≡ sum (take r xs)
  pub others : (r p : ℕ) → r ≤ 16 → p ≤ 64 → (p ≡ q → ⊥) → sum_at new r p ≡ sum_at old r p

-- the columns from q on are those of the savings
abbrev pub ColumnsFrom : List ℕ → ℕ → List (List ℕ) → Type 0
ColumnsFrom savings q sums = (r p : ℕ) → r ≤ 16 → q ≤ p → p ≤ length savings → sum_at sums r p ≡ largest r (drop p savings)
