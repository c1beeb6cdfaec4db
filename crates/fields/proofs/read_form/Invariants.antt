use Rattle.std.specs.Prelude.{◌≡◌, ℕ, List, length, take}
use Rattle.std.proofs.lemmas.Iterator.{YieldsList}
use Rattle.model.specs.Format.{after_letter, fields_of}
use Rattle.fields.proofs.Fields.{reading}
use Rattle.fields.proofs.read_form.Given as goal

abbrev pub invariant-loop-number : goal.invariant-loop-number
invariant-loop-number l =
    (left : List (List ℕ)) × YieldsList (goal.iterator-loop-number).next_gives (λ x. x.now) l.fields left
    × (after_letter l.letter (length l.fn.row) (fields_of l.bytes) ≡ reading (length l.fn.row) (take l.number-index l.row) left)
