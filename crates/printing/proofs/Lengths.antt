-- A file that is too long is refused for its length, so that what a command prints does not depend on how much more of it there is.
use Rattle.std.proofs.Common.{inl, inr, ◌≡◌, ℕ, ◌≤◌, ◌<◌, Bool, true, false, List, Option, None, Some, IfSome, arith, length, take, sym, ap, ◌∙◌, refl, subst, take_all, length-take-le}
use Rattle.std.proofs.lemmas.Bool.{cases_lt, lt-leb}
use Rattle.std.specs.Prelude.{◌⊎◌}
use Rattle.std.specs.Io.KnownBytes.{Appends}
use Rattle.model.specs.Answer.{given, ◌>>=◌, refuse_length}
use Rattle.model.specs.Format.{records_of}
use Rattle.model.specs.Network.{read_file, network_of}
use Rattle.model.specs.Rules.{accepted, radial}
use Rattle.model.specs.Outage.{total, figure}
use Rattle.model.specs.Text.{report_text}
use Rattle.model.specs.Calls.{checked, impact_answered, impact_of, totalled, text_or_x}
use Rattle.model.specs.Commands.{prints, commanded, line_k, line_i, totals_line, plan_text, segments_text}
use Rattle.model.specs.declared.Command.{Command}
use Rattle.input.specs.Reading.{ReadsAll}

-- a file of more than 32,768 bytes
long-refused : (file : List ℕ) → 32768 < length file → network_of file ≡ refuse_length
unfolding network_of
long-refused file h = ap (λ (b : Bool). elim b [ true ↦ read_file (records_of file) | false ↦ refuse_length ]) (lt-leb (length file) 32768 h)

-- 32,769 bytes say as much of a file as all of it
cut-read : (file : List ℕ) → network_of (take 32769 file) ≡ network_of file
cut-read file = cut (cases_lt 32768 (length file)) where
  cut : (32768 < length file) ⊎ (length file ≤ 32768) → network_of (take 32769 file) ≡ network_of file
  cut (inl h) = long-refused (take 32769 file) (omega (arith, length-take-le 32769 file h)) ∙ sym (long-refused file h)
  cut (inr h) = ap network_of (take_all 32769 file (omega (arith, h)))

cut-accepted : (file : List ℕ) → accepted (take 32769 file) ≡ accepted file
unfolding accepted
cut-accepted file = ap (λ a. a >>= λ N. radial N) (cut-read file)

-- what a command answers for a file's first 32,769 bytes is what it answers for all
cut-commanded : (command : Command) (file : List ℕ) → commanded command (take 32769 file) ≡ commanded command file
unfolding commanded checked impact_answered totalled
cut-commanded Command.Report file = ap (λ a. a >>= λ N. given (report_text N)) (cut-accepted file)
cut-commanded Command.Check file = ap (λ a. (a >>= λ N. given tt) >>= λ u. given line_k) (cut-accepted file)
cut-commanded (Command.Impact l) file = ap (λ a. (a >>= λ N. impact_of l N) >>= λ customers. given (line_i l customers)) (cut-accepted file)
cut-commanded Command.Total file = ap (λ a. (a >>= λ N. given (record { total = total N; figure = figure N })) >>= λ t. given (totals_line t)) (cut-accepted file)
cut-commanded Command.Search file = ap (λ a. a >>= λ N. given (plan_text N)) (cut-accepted file)
cut-commanded Command.Segments file = ap (λ a. a >>= λ N. given (segments_text N)) (cut-accepted file)
cut-commanded (Command.Ceiling places additions) file = refl

-- and so is what it prints
cut-prints : (command : Command) (file : List ℕ) → prints command (take 32769 file) ≡ prints command file
unfolding prints
cut-prints command file = ap text_or_x (cut-commanded command file)

-- what is printed of all that was read, where there was room for 32,769 bytes, is what is printed of all that was there
pub read-printed : (command : Command) (known old new : Option (List ℕ)) (room : ℕ) (read : List ℕ) → room ≡ 32769 → ReadsAll known room read
    → Appends old new (prints command read) → IfSome known (λ bytes. Appends old new (prints command bytes))
read-printed command None old new room read e r p = tt
read-printed command (Some bytes) old new room read e r p =
    subst (Appends old new) (ap (prints command) (r ∙ ap (λ n. take n bytes) e) ∙ cut-prints command bytes) p
