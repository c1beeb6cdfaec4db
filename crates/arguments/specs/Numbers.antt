-- A word that is to be a number.
use Rattle.std.specs.Prelude.{ℕ, Option, Some, None, Result, Ok, Err}
use Rattle.model.specs.declared.Misuse.{Misuse}

-- the number, or what is wrong where there is none
abbrev pub number_or : Misuse → Option ℕ → Result ℕ Misuse
number_or wrong (Some n) = Ok n
number_or wrong None = Err wrong
