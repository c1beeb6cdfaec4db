use native.Mathlib.Omega.{arith}
use Rattle.relations.proofs.Routed.{routed}
use Rattle.starts.proofs.Outlook.start.Goals as goal

pub start_upstream-requires : goal.start_upstream-requires
start_upstream-requires c = ((routed c.args.routes.now).accepted, c.requires.0, record { low = omega arith; high = omega arith })

pub start_weight-requires-clause-places : goal.start_weight-requires-clause-places
start_weight-requires-clause-places c = ((routed c.args.routes.now).accepted, c.requires.0, record { low = omega arith; high = omega arith })

pub start_in_series-requires : goal.start_in_series-requires
start_in_series-requires c = ((routed c.args.routes.now).accepted, c.requires.1, c.in_series-in_series.ensures, record { low = omega arith; high = omega arith })
