use Prim.Native.Nat.{◌<◌, ◌≤◌, ◌+◌, ◌*◌}
use mathlib.Core.Path.{◌≡◌, ap, subst}
use native.Mathlib.Omega.{arith}
use lib.ListN.{length, get_or, set}
use Rattle.relations.specs.Related.{later_in}
use Rattle.prospects.proofs.Undoing.{Keeping, keep-is}
use Rattle.prospects.proofs.Entering.{later-place, place-few, written-at, owned, changed_all}
use Rattle.prospects.proofs.Prospects.enter.Goals as goal

pub upstream-requires : goal.upstream-requires
upstream-requires c =
    let e = c.later-place-items.ensures in
    rw e (later-place c.requires c.loop-place.invariant (omega (arith, c.loop-place-test.true, ap length e)))

pub weight-requires : goal.weight-requires
weight-requires c =
    let e = c.later-place-items.ensures in
    rw e (later-place c.requires c.loop-place.invariant (omega (arith, c.loop-place-test.true, ap length e)))

pub in_series-requires : goal.in_series-requires
in_series-requires c =
    let e = c.later-place-items.ensures in
    rw e (later-place c.requires c.loop-place.invariant (omega (arith, c.loop-place-test.true, ap length e)))

pub loop-place-preserved : goal.loop-place-preserved
loop-place-preserved c =
    let l = c.loop-place in
    let e = c.later-place-items.ensures in
    let place = get_or c.later-place-items.result.now l.place-index 0 in
    let h : l.place-index < length (later_in c.args.tables.now.relations.now c.args.last) = omega (arith, c.loop-place-test.true, ap length e) in
    let few : place ≤ 64 = rw e (place-few c.requires l.invariant h) in
    written-at c.requires l.invariant h (record { upstream = c.upstream.result; weight = c.weight.result; in_series = c.in_series.result }) c.set.new.self _ place
    (ap (λ qs. get_or qs l.place-index 0) e) c.upstream.ensures c.weight.ensures c.in_series.ensures
    (subst (λ v. Keeping (length c.args.members.now) place v l.self.kept (set l.self.kept (length c.args.members.now * 65 + place) c.of.result)) c.of.ensures
    (keep-is (length c.args.members.now) place c.of.result l.self.kept l.self.rows c.requires.few few))
    (record { own = c.set.ensures.place; others = c.set.ensures.others })

pub returns : goal.returns
returns c =
    let w = c.loop-place.invariant in
    let e = c.later-place-items.ensures in
    let all : c.loop-place.place-index ≡ length (later_in c.args.tables.now.relations.now c.args.last) = omega (arith, c.loop-place-test.false, c.loop-place.auto.place-index-end, ap length e) in
    record { own = owned c.requires w all; changed = changed_all c.requires w all; below = w.below }
