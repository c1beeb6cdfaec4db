use Prim.Native.Nat.{◌+◌}
use mathlib.Core.Path.{◌≡◌, ap}
use native.Mathlib.Omega.{arith}
use lib.ListN.{length}
use Rattle.savings.specs.Breakers.{end_at}
use Rattle.starts.specs.Own.{counts_for}
use Rattle.starts.specs.Held.{own_in}
use Rattle.starts.proofs.UnderPlaces.{counted, not-counted}
use Rattle.starts.proofs.Weighing.{share, weighed-more, weighed-all, weight-few}
use Rattle.theory.specs.Gathering.{sum_from, sum_first, sum-none}
use Rattle.starts.proofs.Own.start_weight.Goals as goal
use Rattle.starts.proofs.Own.start_weight.Goals.{then-under, else-under}

pub loop-s-init : goal.loop-s-init
loop-s-init c =
    let g = c.args in
    let N = g.net.now in
    let add = share g.net.now g.self.now g.place in
    let all = weighed-all N c.requires.places.0 g.self.now c.requires.own.1 g.place c.requires.places.2.low c.requires.places.2.high in
    (omega arith, omega arith, omega arith, omega (arith, all, ap (sum_from add 1) {x = c.place_count-s-end.result + 1} {y = length N.places + 1} (omega arith)))

pub overflow_add-weight : goal.overflow_add-weight
overflow_add-weight c =
    let g = c.args in
    let h = c.loop-s in
    let N = g.net.now in
    let t = counts_for g.net.now g.place h.s in
    omega (
      arith,
      c.of-weight.ensures,
      counted {a = t} (own_in g.self.now h.s) c.under.ensures c.if-under.true,
      sum_first (share g.net.now g.self.now g.place) h.s (c.place_count-s-end.result + 1) (omega arith),
      weight-few N c.requires.places.0 (end_at N g.place),
    )

pub loop-s-preserved : goal.loop-s-preserved
loop-s-preserved c =
    let g = c.args in
    let h = c.loop-s in
    let add = share g.net.now g.self.now g.place in
    let own = own_in g.self.now h.s in
    let t = counts_for g.net.now g.place h.s in
    let e : c.if-under.weight ≡ h.weight + add h.s = elim c.if-under.branch [
      | then-under w ↦ omega (arith, w.weight-is, w.of-weight.ensures, counted {a = t} own c.under.ensures w.if-under.true)
      | else-under w ↦ omega (arith, not-counted {a = t} own c.under.ensures w.if-under.false)
    ] in
    (h.invariant.0, omega arith, omega arith, weighed-more add h.weight c.if-under.weight h.s _ _ (omega arith) e h.invariant.3)

pub returns : goal.returns
returns c =
    let g = c.args in
    omega (arith, c.loop-s.invariant.3, sum-none (share g.net.now g.self.now g.place) c.loop-s.s (c.place_count-s-end.result + 1) (omega arith))
