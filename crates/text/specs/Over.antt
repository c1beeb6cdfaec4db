-- A list of bytes or of numbers over the start of a buffer.
use Rattle.std.specs.Prelude.{ℕ, ◌≡◌, List, ◌++◌, length, drop}

-- the list b with the list t over its start
abbrev pub over : List ℕ → List ℕ → List ℕ
over t b = t ++ drop (length t) b

-- the list t is written over the start of a buffer, and n is its length
abbrev pub Written : List ℕ → List ℕ → List ℕ → ℕ → Type 0
Written t old new n = (n ≡ length t) × (new ≡ over t old)
