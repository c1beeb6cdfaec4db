use mathlib.Core.Path.{◌≡◌, sym, ap, ◌∙◌, subst}
use Prim.Native.Nat.{ℕ, ◌+◌, ◌*◌, ◌<◌}
use native.Mathlib.Omega.{arith}
use lib.ListN.{length, set}
use borrow.Author.Rules.{rules}
use Rattle.savings.specs.Breakers.{end_at}
use Rattle.network.specs.Found.{found}
use Rattle.sets.specs.Onward.{onward}
use Rattle.relations.specs.declared.Relation.TheVariants.{Behind, Above}
use Rattle.relations.specs.Climb.{is_above, place_above}
use Rattle.relations.proofs.Climbing.{number, number-is, some-low, Climbed, level, level-less, climb-start, climb-next, climb-end}
use Rattle.relations.proofs.Above.{climb-places}
use Rattle.relations.proofs.Routed.{routed}
use Rattle.relations.proofs.Relations.climb.Goals as goal

pub loop-next-init : goal.loop-next-init
loop-next-init c =
    let N = c.args.routes.now.net.now in
    let y = (routed c.args.routes.now).accepted in
    let old = c.args.self.now.between in
    let long : length old ≡ 4225 = search rules in
    let e = ap number c.above-next.ensures ∙ number-is (place_above N c.args.place) in (
      c.above-next.ensures ∙ ap found (sym e),
      subst (λ a. Climbed (length N.places) (is_above N) c.args.place a old old) (sym e)
          (climb-start (length N.places) (is_above N) (place_above N) (λ p. length (onward N (end_at N p))) (climb-places N y) y.read.place_count c.args.place (c.requires.place.low, c.requires.place.high) old long),
    )

pub loop-next-smaller : goal.loop-next-smaller
loop-next-smaller c =
    let N = c.args.routes.now.net.now in
    let y = (routed c.args.routes.now).accepted in
    let a = c.in-Some.above in
    let height : ℕ → ℕ = λ p. length (onward N (end_at N p)) in
    let was = ap number c.in-Some.is in
    let low = some-low a (sym c.in-Some.is ∙ c.loop-next.invariant.0 ∙ ap found was) in
    let e = ap number c.above-next-in-Some.ensures ∙ number-is (place_above N a) in
    subst (λ x. level height (number c.above-next-in-Some.result) < level height x) (sym was)
    (subst (λ x. level height x < level height a) (sym e)
    (level-less (length N.places) (is_above N) (place_above N) height (climb-places N y) a (low, omega (arith, was, c.loop-next.invariant.1.high))))

pub loop-next-preserved : goal.loop-next-preserved
loop-next-preserved c =
    let N = c.args.routes.now.net.now in
    let y = (routed c.args.routes.now).accepted in
    let a = c.in-Some.above in
    let p = c.args.place in
    let between = c.loop-next.self.between in
    let was = ap number c.in-Some.is in
    let low = some-low a (sym c.in-Some.is ∙ c.loop-next.invariant.0 ∙ ap found was) in
    let both : c.set-in-Some.new.self.between ≡ set (set between (a * 65 + p) Behind) (p * 65 + a) Above = c.set-in-Some.ensures.table ∙ ap (λ t. set t (p * 65 + a) Above) c.set.ensures.table in
    let e = ap number c.above-next-in-Some.ensures ∙ number-is (place_above N a) in (
      c.above-next-in-Some.ensures ∙ ap found (sym e),
      subst (λ t. Climbed (length N.places) (is_above N) p (number c.above-next-in-Some.result) c.args.self.now.between t) (sym both)
          (subst (λ x. Climbed (length N.places) (is_above N) p x c.args.self.now.between (set (set between (a * 65 + p) Behind) (p * 65 + a) Above)) (sym e)
          (climb-next (length N.places) (is_above N) (place_above N) (λ p. length (onward N (end_at N p))) (climb-places N y) y.read.place_count p (c.requires.place.low, c.requires.place.high) a c.args.self.now.between between low
          (subst (λ x. Climbed (length N.places) (is_above N) p x c.args.self.now.between between) was c.loop-next.invariant.1))),
    )

pub returns-clause-noted : goal.returns-clause-noted
returns-clause-noted c =
    let N = c.args.routes.now.net.now in
    let y = (routed c.args.routes.now).accepted in
    climb-end (length N.places) (is_above N) (place_above N) (λ p. length (onward N (end_at N p))) (climb-places N y) y.read.place_count c.args.place (c.requires.place.low, c.requires.place.high) c.args.self.now.between c.loop-next.self.between
    (subst (λ x. Climbed (length N.places) (is_above N) c.args.place x c.args.self.now.between c.loop-next.self.between) (ap number c.in_default.is) c.loop-next.invariant.1)

pub returns-clause-row_zero : goal.returns-clause-row_zero
returns-clause-row_zero c = c.loop-next.invariant.1.kept
