-- What holds where a file could not be read, or its answer not be written.
use Rattle.std.specs.Prelude.{ℕ, List, Option, Result, Ok, Err, length, take}
use Rattle.std.specs.Io.KnownBytes.{Keeps}
use Rattle.input.specs.Reading.{ReadsAll}
use Rattle.model.specs.declared.Request.{Request}
use Rattle.model.specs.declared.Misuse.{Misuse}
use Rattle.printing.specs.declared.Failure.{Failure}

-- of a reader that had some bytes and a writer that held some: without a file nothing is written; else the buffer begins with the file
abbrev pub Failed : Failure → Option (List ℕ) → Option (List ℕ) → Option (List ℕ) → List ℕ → Type 0
Failed (Failure.Read e) known old new buffer = Keeps old new
Failed (Failure.Write e) known old new buffer = (n : ℕ) × ReadsAll known (length buffer) (take n buffer)

-- the writer failed
abbrev pub IsWrite : Failure → Type 0
IsWrite (Failure.Read e) = ⊥
IsWrite (Failure.Write e) = Unit {0}

-- a command can fail at its file or its answer, a text at the writer alone, and wrong words not at all
abbrev pub Fails : Result Request Misuse → Failure → Option (List ℕ) → Option (List ℕ) → Option (List ℕ) → List ℕ → Type 0
Fails (Ok (Request.Ask command word)) e known old new buffer = Failed e known old new buffer
Fails (Ok Request.Help) e known old new buffer = IsWrite e
Fails (Ok Request.Version) e known old new buffer = IsWrite e
Fails (Err misuse) e known old new buffer = ⊥
