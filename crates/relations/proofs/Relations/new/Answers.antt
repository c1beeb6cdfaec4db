use Prim.Native.Nat.{◌+◌, ◌*◌}
use Rattle.theory.specs.Gathering.{always}
use Rattle.relations.specs.declared.Relation.TheVariants.{Apart}
use Rattle.relations.proofs.Relations.new.Goals as goal

pub returns-clause-apart : goal.returns-clause-apart
returns-clause-apart c = λ q p. always Apart 4225 (q * 65 + p)
