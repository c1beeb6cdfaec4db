use Rattle.text.proofs.Lines.{Begun}
use Rattle.text.proofs.put_line.Given as goal

abbrev pub invariant-loop-number : goal.invariant-loop-number
invariant-loop-number l = Begun l.letter l.numbers l.initial.buf l.buf l.at l.number-index
