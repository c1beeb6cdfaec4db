use Prim.Native.Nat.{◌+◌}
use mathlib.Core.Path.{ap, ◌∙◌}
use mathlib.Core.List.{[], ◌∷◌}
use native.Mathlib.Omega.{arith}
use Rattle.model.specs.Sets.{set_total}
use Rattle.prospects.proofs.Saving.{saved_none, saved-few, next-later, saved_more, saved_all}
use Rattle.prospects.proofs.Tables.savings.Goals as goal

pub loop-place-init : goal.loop-place-init
loop-place-init c = (omega arith, c.new-savings.ensures ∙ saved_none c.args.self.now.net.now)

pub fall-requires : goal.fall-requires
fall-requires c =
    let t = c.requires.0 in
    let l = c.loop-place in (
      next-later c.args.self.now.net.now l.place l.savings.items l.invariant.1 l.invariant.0 (omega (arith, c.loop-place-test.true, c.place_count-place-end.ensures.count)) c.args.self.now.relations.now c.args.start.now t.accepted t.related c.requires.1,
      t.behind,
    )

pub push-requires : goal.push-requires
push-requires c =
    let l = c.loop-place in
    (omega arith, saved-few c.args.self.now.net.now l.place l.savings.items l.invariant.1 l.invariant.0 (omega (arith, c.loop-place-test.true, c.place_count-place-end.ensures.count)) c.requires.0.accepted.read.place_count)

pub loop-place-preserved : goal.loop-place-preserved
loop-place-preserved c =
    let N = c.args.self.now.net.now in
    let l = c.loop-place in
    (omega arith, c.push.ensures.items ∙ saved_more N l.place l.savings.items l.invariant.1 l.invariant.0 c.from.result (ap (λ n. n + set_total N (l.place ∷ [])) c.from.ensures ∙ c.fall.ensures))

pub returns : goal.returns
returns c =
    let l = c.loop-place in
    saved_all c.args.self.now.net.now l.place l.savings.items l.invariant.1 (omega (arith, c.loop-place-test.false, l.auto.place-end, l.auto.place, c.place_count-place-end.ensures.count))
