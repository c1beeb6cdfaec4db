use Prim.Native.Nat.{ℕ}
use mathlib.Core.Path.{◌≡◌, ap, ◌∙◌, subst}
use mathlib.Core.List.{[]}
use native.Mathlib.Omega.{arith}
use lib.ListN.{length}
use Rattle.model.specs.Walk.{insert}
use Rattle.bounds.specs.Table.{Column}
use Rattle.bounds.proofs.Columns.{Begins, Built, begins-all, begins-less, built-none, built-more, ordered-more, ordered-long, ordered-small}
use Rattle.bounds.proofs.Bounds.fill.Goals as goal

pub loop-passed-init : goal.loop-passed-init
loop-passed-init c =
    let xs = c.args.savings.now in
    let new = c.write_sums.new.self.sums in
    let column = subst (λ ys. Column ys (length xs) c.args.self.now.sums new) (c.deref.ensures.0 ∙ c.new-list.ensures) c.write_sums.ensures in
    let all : xs ≡ c.into_iter-passed-iterator.result.iter.iter.rest.now = cc in
    let built = subst (λ ys. Begins ys xs × Built xs (length ys) new []) all (begins-all xs, built-none xs c.requires.0 c.args.self.now.sums new column) in
    rw c.new-list.ensures (cc, built.0, built.1)

pub insert_falling-requires : goal.insert_falling-requires
insert_falling-requires c =
    let l = c.loop-passed in
    let xs = c.args.savings.now in
    let less = begins-less xs c.next.new.self.iter.iter.rest.now c.in-Some.field-0-1.now l.invariant.1 c.in-Some.ensures.steps.1.0 in
    omega (arith, ordered-long xs _ l.invariant.2.ordered, c.requires.0, less.0, less.1)

pub write_sums-requires-in-loop-passed : goal.write_sums-requires-in-loop-passed
write_sums-requires-in-loop-passed c =
    let l = c.loop-passed in
    let xs = c.args.savings.now in
    let rest = c.next.new.self.iter.iter.rest.now in
    let less = begins-less xs rest c.in-Some.field-0-1.now l.invariant.1 c.in-Some.ensures.steps.1.0 in
    let e = c.deref-in-loop-passed.ensures.0 in
    let o = ordered-more xs _ l.list.items l.invariant.2.ordered (length rest) c.insert_falling.new.list.items less.1 less.0
    (c.insert_falling.ensures ∙ ap (λ (x : ℕ). insert x l.list.items) less.3) in
    (omega (arith, c.in-Some.ensures.steps.1.1, l.invariant.0, less.1, c.requires.0), rw e (omega (arith, ordered-long xs _ o, c.requires.0)), rw e (ordered-small xs _ o c.requires.1))

pub loop-passed-preserved : goal.loop-passed-preserved
loop-passed-preserved c =
    let l = c.loop-passed in
    let xs = c.args.savings.now in
    let rest = c.next.new.self.iter.iter.rest.now in
    let new = c.write_sums-in-loop-passed.new.self.sums in
    let more = c.insert_falling.new.list.items in
    let less = begins-less xs rest c.in-Some.field-0-1.now l.invariant.1 c.in-Some.ensures.steps.1.0 in
    let at : c.in-Some.passed ≡ length rest = omega (arith, c.in-Some.ensures.steps.1.1, l.invariant.0) in
    let column = subst (λ p. Column more p l.self.sums new) at (subst (λ ys. Column ys c.in-Some.passed l.self.sums new) c.deref-in-loop-passed.ensures.0 c.write_sums-in-loop-passed.ensures) in (
      c.in-Some.ensures.steps.0 ∙ l.invariant.0,
      less.2,
      built-more xs c.requires.0 _ l.self.sums l.list.items l.invariant.2 (length rest) new more less.1 less.0
          (c.insert_falling.ensures ∙ ap (λ (x : ℕ). insert x l.list.items) less.3) column,
    )

pub returns : goal.returns
returns c = λ r p a b m. c.loop-passed.invariant.2.columns r p a (omega (arith, c.in-None.ensures.steps.1)) m
