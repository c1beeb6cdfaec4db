use Prim.Native.Nat.{◌*◌, ◌≤◌}
use native.Mathlib.Nat.{mul-le-mul}
use native.Mathlib.Omega.{arith}
use Rattle.outage.proofs.customer_minutes.Goals as goal

pub overflow_mul-result : goal.overflow_mul-result
overflow_mul-result c =
    let most : c.args.minutes * c.args.total ≤ 1440 * 7864320000000000 = mul-le-mul c.requires.0 c.requires.1 in
    omega (arith, most)
