use Rattle.std.specs.Prelude.{◌≡◌, ◌∷◌, ◌++◌, length, take, drop}
use Rattle.bounds.proofs.insert_falling.Given as goal

abbrev pub invariant-loop-i : goal.invariant-loop-i
invariant-loop-i l =
    (take l.i l.list.items ++ l.next ∷ drop l.i l.list.items ≡ take l.at l.initial.list.items ++ l.fn.saving ∷ drop l.at l.initial.list.items) × (length l.list.items ≡ length l.initial.list.items)
