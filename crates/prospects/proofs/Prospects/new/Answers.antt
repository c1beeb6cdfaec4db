use Prim.Native.Nat.{◌+◌, ◌*◌}
use Rattle.theory.specs.Gathering.{always}
use Rattle.starts.specs.Outlook.{no_prospect}
use Rattle.prospects.proofs.Prospects.new.Goals as goal

pub returns : goal.returns
returns c = record { outlook = c.new.ensures; kept = λ row p. always no_prospect 1040 (row * 65 + p) }
