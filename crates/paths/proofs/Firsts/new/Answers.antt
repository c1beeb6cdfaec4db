use Prim.Native.Nat.{◌-◌}
use mathlib.Core.Path.{ap}
use Rattle.theory.specs.Gathering.{always}
use Rattle.paths.specs.declared.Met.{Met}
use Rattle.paths.specs.Meets.{no_met}
use Rattle.paths.proofs.Firsts.new.Goals as goal

pub returns : goal.returns
returns c = λ l. ap (λ (m : Met). m.first) (always no_met 768 (l - 1))
