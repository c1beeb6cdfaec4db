-- What comes from a reader.
use Rattle.std.specs.Prelude.{◌≡◌, ℕ, List, take, IfSome, Option}

-- what was read is all that was there, or as much of it as there was room for
abbrev pub ReadsAll : Option (List ℕ) → ℕ → List ℕ → Type 0
ReadsAll known room read = IfSome known (λ bytes. read ≡ take room bytes)
