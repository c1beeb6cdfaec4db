use Prim.Native.Nat.{ℕ, ◌≤◌}
use mathlib.Core.Path.{◌≡◌}
use lib.ListN.{length}
use Rattle.relations.specs.declared.Relation.TheVariants.{Apart}
use Rattle.relations.specs.Lists.{relation_at}
use Rattle.relations.specs.Climb.{is_above}
use Rattle.relations.proofs.Climbing.{Related}
use Rattle.relations.proofs.Relations.relate.Given as goal

abbrev pub invariant-loop-place : goal.invariant-loop-place
invariant-loop-place l = ((p : ℕ) → p ≤ 64 → relation_at l.self.between 0 p ≡ Apart) × Related (length l.routes.net.now.places) (is_above l.routes.net.now) l.place l.self.between
