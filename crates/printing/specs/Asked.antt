-- What comes of what the words behind the program's name ask for.
use Rattle.std.specs.Prelude.{◌≡◌, ℕ, ◌≤◌, ◌⊎◌, List, [], Option, Result, Ok, Err, length, take}
use Rattle.model.specs.Commands.{prints, commanded}
use Rattle.model.specs.declared.Request.{Request}
use Rattle.model.specs.declared.Misuse.{Misuse}
use Rattle.input.specs.Reading.{ReadsAll}
use Rattle.commands.specs.Told.{Told}
use Rattle.printing.specs.declared.Served.{Served}

-- the text: what a command prints of a file, the help, the version; nothing where the words are wrong
abbrev pub text_of : Result Request Misuse → (help version file : List ℕ) → List ℕ
text_of (Ok (Request.Ask command word)) help version file = prints command file
text_of (Ok Request.Help) help version file = help
text_of (Ok Request.Version) help version file = version
text_of (Err misuse) help version file = []

-- what came of it is told: for a command the buffer begins with the file, of which something may be known, and its refusal is told
abbrev pub Answers : Served → Result Request Misuse → Option (List ℕ) → List ℕ → Type 0
Answers (Served.Answered command printed) asked known buffer =
    ((word : Option ℕ) × (asked ≡ Ok (Request.Ask command word))) × (printed.bytes ≤ length buffer)
    × ReadsAll known (length buffer) (take printed.bytes buffer) × Told printed.refusal (commanded command (take printed.bytes buffer))
Answers Served.Told asked known buffer = (asked ≡ Ok Request.Help) ⊎ (asked ≡ Ok Request.Version)
Answers (Served.Misused misuse) asked known buffer = asked ≡ Err misuse
