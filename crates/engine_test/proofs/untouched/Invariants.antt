use Rattle.std.proofs.Common.{◌≤◌}
use Rattle.engine_test.proofs.untouched.Given as goal

abbrev pub invariant-loop-byte : goal.invariant-loop-byte
invariant-loop-byte l = l.n ≤ l.byte-index
