use Prim.Native.Nat.{◌+◌}
use native.Mathlib.Omega.{arith}
use Rattle.binomials.proofs.Entries.{columns-first, columns-all, columns-none}
use Rattle.binomials.proofs.set_count.Goals as goal

pub loop-column-init : goal.loop-column-init
loop-column-init c = omega (arith, columns-all c.args.places c.args.additions)

pub loop-column-preserved : goal.loop-column-preserved
loop-column-preserved c = omega (arith, columns-first c.args.places c.loop-column.column (c.args.additions + 1) (omega arith))

pub returns : goal.returns
returns c = omega (arith, columns-none c.args.places c.loop-column.column (c.args.additions + 1) (omega arith))
