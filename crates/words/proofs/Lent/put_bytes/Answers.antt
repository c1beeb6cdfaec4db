use Rattle.std.proofs.Common.{arith, ap, ◌∙◌, ◌++◌, append-nil, drop, length, ◌-◌, append_assoc, take_all, length-append, length-drop, length-take}
use Rattle.std.proofs.Math.ListN.{drop_of_length-le}
use borrow.Rule.Slice.PartMut.{post_of}
use Rattle.words.proofs.Behind.{behind, rest}
use Rattle.words.proofs.Lent.put_bytes.Goals as goal

pub returns-clause-bytes : goal.returns-clause-bytes
returns-clause-bytes c =
    let buffer = c.args.self.now.buffer.now in
    let start = c.min-start.result in
    let count = c.copy_front-n.ensures.count in
    rw (c.copy_front-n.ensures.copied, append_assoc)
    (behind _ start c.copy_front-n.result buffer _ _ c.min-start.ensures
    (omega (arith, count, length-take (length buffer - start) (drop start buffer), length-drop start buffer))
    (simp (length-append, length-take, length-drop) (omega (arith, count, c.min-start.ensures, length-take (length buffer - start) (drop start buffer), length-drop start buffer))))

pub returns-clause-rest : goal.returns-clause-rest
returns-clause-rest c =
    let buffer = c.args.self.now.buffer.now in
    let start = c.min-start.result in
    let count = c.copy_front-n.ensures.count in
    let whole = take_all (length buffer - start) (drop start buffer) (omega (arith, length-drop start buffer)) in
    rw (c.copy_front-n.ensures.copied, append_assoc)
    (rest _ start c.copy_front-n.result buffer _ _ c.min-start.ensures
    (omega (arith, count, length-take (length buffer - start) (drop start buffer), length-drop start buffer))
    (simp (length-append, length-take, length-drop) (omega (arith, count, c.min-start.ensures, length-take (length buffer - start) (drop start buffer), length-drop start buffer)))
    (ap (λ l. drop c.copy_front-n.result l ++ post_of start (length buffer - start) buffer) whole
    ∙ ap (λ l. drop c.copy_front-n.result (drop start buffer) ++ l) (drop_of_length-le (drop start buffer) (omega (arith, length-drop start buffer)))
    ∙ append-nil (drop c.copy_front-n.result (drop start buffer))))
