use mathlib.Core.Path.{◌≡◌}
use lib.ListN.{take}
use Rattle.model.specs.Sets.{with_breakers}
use Rattle.planning.proofs.add_breakers.Given as goal

abbrev pub invariant-loop-place : goal.invariant-loop-place
invariant-loop-place l = l.net ≡ with_breakers l.initial.net (take l.place-index l.members)
