use Rattle.model.specs.declared.Head.{Head}
use mathlib.Core.Path.{◌∙◌, ap}
use native.Mathlib.Omega.{arith}
use Rattle.theory.specs.Sizes.{read-sized, total_size}
use Rattle.outage.proofs.Totals.{figure-is}
use Rattle.outage.proofs.figure_of.Goals as goal

pub customer_minutes-requires : goal.customer_minutes-requires
customer_minutes-requires c =
    let N = c.args.net.now in
    (omega (arith, (ap (λ (h : Head). h.minutes) c.head.ensures), c.requires.0.head.minutes.high), omega (arith, c.requires.1, total_size N (read-sized N c.requires.0)))

pub returns : goal.returns
returns c =
    c.customer_minutes.ensures ∙ figure-is c.args.net.now c.head.result.now.minutes c.args.total (ap (λ (h : Head). h.minutes) c.head.ensures) c.requires.1
