use Rattle.theory.specs.Gathering.{always}
use Rattle.starts.specs.Outlook.{no_prospect}
use Rattle.starts.proofs.Outlook.new.Goals as goal

pub returns : goal.returns
returns c = λ p. always no_prospect 65 p
