use mathlib.Core.Path.{refl, sym}
use native.Mathlib.Omega.{arith}
use Rattle.records.proofs.Next.{not-closed, closed-here}
use Rattle.records.proofs.first_closed.Goals as goal

pub returns-in_err-end-clause-bytes : goal.returns-in_err-end-clause-bytes
returns-in_err-end-clause-bytes c = rw c.from_residual.ensures (sym (not-closed c.args.rest.now _ refl (omega (arith, c.in_err-end.ensures))))

pub returns-clause-bytes : goal.returns-clause-bytes
returns-clause-bytes c = sym (closed-here c.args.rest.now c.in_ok-end.end c.in_ok-end.ensures.0 c.in_ok-end.ensures.1)
