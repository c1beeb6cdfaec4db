use mathlib.Core.Path.{subst}
use Rattle.std.proofs.Common.{arith}
use Rattle.tree.specs.Queue.{LinkedAbove}
use Rattle.tree.proofs.Linking.{linked-start, linked-end}
use Rattle.tree.proofs.Lists.link.Goals as goal

pub loop-line-init : goal.loop-line-init
loop-line-init c = (
  omega arith,
  omega (arith, c.line_count-line.ensures.count),
  subst (λ n. LinkedAbove c.args.net.now n c.clear.new.self) (omega (arith, c.line_count-line.ensures.count)) (linked-start c.args.net.now c.clear.new.self c.clear.ensures),
)

pub loop-line-preserved : goal.loop-line-preserved
loop-line-preserved c =
    let h = c.loop-line in
    let N = c.args.net.now in (
      omega arith,
      omega (arith, h.invariant.1),
      subst (λ n. LinkedAbove N n c.insert-in-loop-line.new.self) (omega arith)
          (c.insert-in-loop-line.ensures
          (subst (λ n. LinkedAbove N n c.insert.new.self) (omega arith) (c.insert.ensures (subst (λ n. LinkedAbove N n h.self) (omega arith) h.invariant.2)))),
    )

pub returns : goal.returns
returns c = let h = c.loop-line in linked-end c.args.net.now h.self c.requires (subst (λ n. LinkedAbove c.args.net.now n h.self) (omega arith) h.invariant.2)
