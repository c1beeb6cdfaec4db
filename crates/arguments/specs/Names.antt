-- The words behind the program's name, by their numbers.
use Rattle.std.specs.Prelude.{ℕ, List, zero, suc}

-- of the first three words, number 1 or 2; else the third
abbrev pub word_at : ℕ → List ℕ → List ℕ → List ℕ → List ℕ
word_at (suc zero) first second third = first
word_at (suc (suc zero)) first second third = second
word_at word first second third = third
