use mathlib.Core.Path.{◌≡◌}
use lib.ListN.{length}
use Rattle.savings.specs.Breakers.{end_at}
use Rattle.network.specs.Found.{found}
use Rattle.sets.specs.Onward.{onward}
use Rattle.relations.specs.Climb.{is_above}
use Rattle.relations.proofs.Climbing.{number, Climbed, level}
use Rattle.relations.proofs.Relations.climb.Given as goal

abbrev pub invariant-loop-next : goal.invariant-loop-next
invariant-loop-next l =
    (l.next ≡ found (number l.next))
    × Climbed (length l.routes.net.now.places) (is_above l.routes.net.now) l.place (number l.next) l.initial.self.between l.self.between

abbrev pub decreases-loop-next : goal.decreases-loop-next
decreases-loop-next l = level (λ p. length (onward l.routes.net.now (end_at l.routes.net.now p))) (number l.next)
