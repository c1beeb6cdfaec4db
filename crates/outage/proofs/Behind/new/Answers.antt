use Prim.Native.Nat.{◌-◌}
use Rattle.theory.specs.Gathering.{always}
use Rattle.outage.proofs.Behind.new.Goals as goal

pub returns : goal.returns
returns c = λ l. always 0 768 (l - 1)
