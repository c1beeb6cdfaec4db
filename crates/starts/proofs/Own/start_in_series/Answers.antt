use Prim.Native.Nat.{◌+◌, max}
use mathlib.Core.Path.{◌≡◌, ap}
use native.Mathlib.Omega.{arith}
use lib.ListN.{length}
use Rattle.graphs.specs.Sum.{on}
use Rattle.starts.specs.Own.{behind_in}
use Rattle.starts.specs.Held.{own_in}
use Rattle.starts.proofs.UnderPlaces.{counted, not-counted}
use Rattle.starts.proofs.Series.{in-series-more, in-series-all}
use Rattle.starts.proofs.Numbers.{most_from, most-none}
use Rattle.starts.proofs.Own.start_in_series.Goals as goal
use Rattle.starts.proofs.Own.start_in_series.Goals.{then-behind, else-behind}

pub loop-s-init : goal.loop-s-init
loop-s-init c =
    let g = c.args in
    let N = g.net.now in
    let all = in-series-all N c.requires.0 g.relations.now g.self.now c.requires.1 c.requires.2 g.place c.requires.3.low c.requires.3.high in
    (omega arith, omega arith, omega arith, omega (arith, all, ap (most_from (behind_in g.relations.now g.place) (own_in g.self.now) 1) {x = c.place_count-s-end.result + 1} {y = length N.places + 1} (omega arith)))

pub loop-s-preserved : goal.loop-s-preserved
loop-s-preserved c =
    let g = c.args in
    let h = c.loop-s in
    let own = own_in g.self.now h.s in
    let t = behind_in g.relations.now g.place h.s in
    let e : c.if-behind.in_series ≡ max h.in_series (on t own) = elim c.if-behind.branch [
      | then-behind w ↦ omega (arith, w.in_series-is, w.of.ensures, counted {a = t} own c.behind.ensures w.if-behind.true)
      | else-behind w ↦ omega (arith, not-counted {a = t} own c.behind.ensures w.if-behind.false)
    ] in
    (h.invariant.0, omega arith, omega arith, in-series-more (behind_in g.relations.now g.place) (own_in g.self.now) h.in_series c.if-behind.in_series h.s _ _ (omega arith) e h.invariant.3)

pub returns : goal.returns
returns c =
    let g = c.args in
    omega (arith, c.loop-s.invariant.3, most-none (behind_in g.relations.now g.place) (own_in g.self.now) c.loop-s.s (c.place_count-s-end.result + 1) (omega arith))
