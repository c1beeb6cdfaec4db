-- What is printed without a command.
use Rattle.std.specs.Prelude.{◌≡◌, ℕ, List}
use mathlib.Core.Path.{refl}
use Rattle.model.specs.Calls.{printed}
use Rattle.model.specs.Commands.{prints, commanded}
use Rattle.model.specs.declared.Command.{Command}

-- the report command prints what the specification says of the program
pub report-prints : (file : List ℕ) → prints Command.Report file ≡ printed file
unfolding printed prints commanded
report-prints file = refl
