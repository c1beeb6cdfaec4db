use native.Mathlib.Omega.{arith}
use Rattle.marks.proofs.Marking.{place-fits}
use Rattle.search.proofs.cost_with.Goals as goal

pub overflow_add-result : goal.overflow_add-result
overflow_add-result c =
    omega (arith, c.place_cost.ensures, (place-fits c.args.net.now c.requires.1 c.args.place c.requires.0.low c.requires.0.high).cost.high, c.requires.2, c.requires.3, c.requires.1.head.money.high, c.requires.1.head.hours.high)
