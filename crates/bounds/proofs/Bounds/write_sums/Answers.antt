use Prim.Native.Nat.{◌+◌}
use mathlib.Core.Path.{refl, ◌∙◌}
use native.Mathlib.Omega.{arith}
use Rattle.model.specs.Lists.{sum}
use Rattle.theory.specs.Sizes.{take-most}
use Rattle.bounds.proofs.Columns.{rows_none, rows_more, sum-within, sum-beyond}
use Rattle.bounds.proofs.Bounds.write_sums.Goals as goal
use Rattle.bounds.proofs.Bounds.write_sums.Goals.{then-left-list, else-left-list}

pub loop-left-init : goal.loop-left-init
unfolding sum
loop-left-init c = (refl, rows_none c.args.list.now c.args.passed c.args.self.now.sums)

pub overflow_add-sum : goal.overflow_add-sum
overflow_add-sum c =
    let l = c.loop-left in
    let xs = c.args.list.now in
    omega (arith, sum-within xs l.left l.sum l.invariant.0, take-most 7864320000000000 (l.left + 1) xs c.requires.2, c.loop-left-test.true)

pub loop-left-preserved : goal.loop-left-preserved
loop-left-preserved c =
    let l = c.loop-left in
    let xs = c.args.list.now in (
      elim c.if-left-list.branch [
        | then-left-list w ↦ w.sum-is ∙ sum-within xs l.left l.sum l.invariant.0
        | else-left-list w ↦ w.sum-is ∙ sum-beyond xs l.left l.sum l.invariant.0 (omega (arith, w.if-left-list.false))
      ],
      rows_more xs c.args.passed l.left c.args.self.now.sums l.self.sums l.self.table c.requires.0 (omega (arith, c.loop-left-test.true)) l.invariant.1 l.sum l.invariant.0,
    )
