use Prim.Native.Nat.{ℕ, ◌+◌, ◌*◌, ◌<◌}
use mathlib.Core.Path.{◌≡◌, ap, ◌∙◌, subst}
use native.Mathlib.Omega.{arith}
use lib.ListN.{length, replicate}
use Rattle.savings.specs.Breakers.{end_at}
use Rattle.sets.specs.Onward.{onward}
use Rattle.relations.specs.declared.Relation.TheVariants.{Apart}
use Rattle.relations.specs.Lists.{relation_at}
use Rattle.relations.specs.Related.{between_in, HoldsLater}
use Rattle.relations.specs.Climb.{is_above, place_above, Among}
use Rattle.relations.proofs.Climbing.{related-start, related-next, related-all}
use Rattle.theory.specs.Gathering.{always}
use Rattle.relations.proofs.Above.{climb-places, relations-all}
use Rattle.relations.proofs.Routed.{routed}
use Rattle.relations.proofs.Relations.relate.Goals as goal

pub loop-place-init : goal.loop-place-init
loop-place-init c =
    let N = c.args.routes.now.net.now in (
      λ p b. always Apart 4225 (0 * 65 + p),
      related-start (length N.places) (is_above N) (place_above N) (λ p. length (onward N (end_at N p))) (climb-places N (routed c.args.routes.now).accepted) (replicate 4225 Apart) (always Apart 4225),
    )

pub loop-place-preserved : goal.loop-place-preserved
loop-place-preserved c =
    let N = c.args.routes.now.net.now in
    let h = c.loop-place in
    let e = c.climb.ensures in
    let i : Among (length N.places) h.place = (h.auto.place, omega (arith, c.loop-place-test.true, h.auto.place-end, c.place_count-count.ensures.count)) in (
      λ p b. e.row_zero p b ∙ h.invariant.0 p b,
      related-next (length N.places) (is_above N) (place_above N) (λ p. length (onward N (end_at N p))) (climb-places N (routed c.args.routes.now).accepted) h.place i h.self.between c.climb.new.self.between h.invariant.1 e.noted,
    )

pub returns-clause-table : goal.returns-clause-table
returns-clause-table c =
    let N = c.args.routes.now.net.now in
    let y = (routed c.args.routes.now).accepted in
    let h = c.loop-place in
    let l = c.list_later in
    let same : (q p : ℕ) → between_in l.new.self q p ≡ relation_at h.self.between q p = λ q p. ap (λ t. relation_at t q p) l.ensures.table in
    let all : length N.places < h.place = omega (arith, c.loop-place-test.false, c.place_count-count.ensures.count) in
    record {
      none = λ p b. same 0 p ∙ h.invariant.0 p b;
      each = relations-all N y l.new.self (λ q p i j. same q p ∙ related-all (length N.places) (is_above N) (place_above N) (λ p. length (onward N (end_at N p))) (climb-places N y) h.place all h.self.between h.invariant.1 q p i j);
    }

pub returns-clause-later : goal.returns-clause-later
returns-clause-later c = subst (HoldsLater c.list_later.new.self) c.place_count-count.ensures.count c.list_later.ensures.lists
