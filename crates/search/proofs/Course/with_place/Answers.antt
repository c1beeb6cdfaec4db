use mathlib.Core.Path.{refl}
use native.Mathlib.Omega.{arith}
use Rattle.theory.specs.Sizes.{read-sized, total_size}
use Rattle.search.proofs.Trying.{later-in, behind-in, falls-is, cost-with, hours-with}
use Rattle.search.proofs.Course.with_place.Goals as goal

pub fall-fall-requires : goal.fall-fall-requires
fall-fall-requires c = (later-in c.choice.ensures c.requires.0, behind-in c.choice.ensures c.requires.0 c.requires.1)

pub add-requires : goal.add-requires
add-requires c =
    omega (arith, falls-is c.choice.ensures c.requires.0 c.fall-fall.result.0 c.fall-fall.ensures, c.requires.0.standing.saved, total_size _ (read-sized _ c.requires.0.standing.chosen.accepted.read))

pub returns : goal.returns
returns c =
    let x = c.requires.0 in
    record {
      last = refl;
      saved = omega (arith, c.add.ensures, falls-is c.choice.ensures c.requires.0 c.fall-fall.result.0 c.fall-fall.ensures, x.standing.saved);
      cost = cost-with x c.cost_with.ensures;
      hours = hours-with x c.hours_with.ensures;
    }
