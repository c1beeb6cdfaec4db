use Rattle.std.proofs.Common.{◌≤◌}
use Rattle.engine_test.proofs.unchanged.Given as goal

abbrev pub invariant-loop-number : goal.invariant-loop-number
invariant-loop-number l = l.n ≤ l.number-index
