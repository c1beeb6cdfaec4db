-- What loading a file answers.
use Rattle.std.specs.Prelude.{Result, Ok, Err}
use Rattle.model.specs.Answer.{Answer, given, refused, refusal_number, refusal_record}
use Rattle.model.specs.Network.{Network}
use Rattle.model.specs.declared.Refusal.{Refusal}
use Rattle.loading.specs.declared.Loaded.{Loaded}

-- the network of a loaded file, or its refusal
abbrev pub network_says : Result Loaded Refusal → Answer Network
network_says (Ok l) = given l.network.now
network_says (Err r) = refused (refusal_number r) (refusal_record r)
