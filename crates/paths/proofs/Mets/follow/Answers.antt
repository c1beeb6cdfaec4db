use Prim.Native.Nat.{ℕ, ◌+◌, ◌-◌, ◌≤◌, ◌<◌}
use mathlib.Core.List.{List}
use mathlib.Core.Path.{◌≡◌, ◌∙◌, ap, sym, subst}
use native.Mathlib.Omega.{arith}
use lib.ListN.{length, get_or, take, set, length-set}
use Rattle.std.proofs.lemmas.List.{get_or-take, length-take-le}
use Rattle.model.specs.Network.{Network}
use Rattle.tree.specs.declared.Tree.{Tree}
use Rattle.tree.specs.Held.{lines_in, HoldsOutwards}
use Rattle.sets.specs.Sets.{route}
use Rattle.paths.specs.Meets.{met_on, Known}
use Rattle.paths.proofs.Passing.{Done, order-long, next_known, done_more, done_all}
use Rattle.paths.proofs.Mets.follow.Goals as goal

-- the items of the loop are the lines of the network, in the tree's order
module _ (N : Network) (t : Tree) (o : HoldsOutwards N t) {items : List ℕ} (e : items ≡ take (length N.lines) (lines_in t)) where
  items-long : length items ≡ length N.lines
  items-long = ap length e ∙ length-take-le (length N.lines) (lines_in t) (order-long N t o)

  item : {i : ℕ} → i < length items → (i < length N.lines) × (get_or items i 0 ≡ get_or (lines_in t) i 0)
  item {i} h = let k : i < length N.lines = omega (arith, items-long) in (k, ap (λ ls. get_or ls i 0) e ∙ get_or-take (length N.lines) (lines_in t) i 0 k)

pub slice_bounds-line-items-end : goal.slice_bounds-line-items-end
slice_bounds-line-items-end c =
    let k : c.line_count.result ≤ length c.lines.result.now = omega (arith, ap length c.lines.ensures, order-long c.args.net.now c.args.tree.now c.requires.2, c.line_count.ensures.count) in
    omega (arith, k, length-take-le c.line_count.result c.lines.result.now k)

pub loop-line-init : goal.loop-line-init
loop-line-init c =
    (λ i. take (c.line_count.ensures.count i) (c.lines.ensures i), c.told-self, λ j h. absurd (omega arith))

pub line_met-requires : goal.line_met-requires
line_met-requires c =
    let h = c.loop-line in
    let N = c.args.net.now in
    let t = c.args.tree.now in
    let k = item N t c.requires.2 h.invariant.0 c.loop-line-test.true in
    subst (Known N t c.args.marks.now h.self.lines) (sym k.1) (next_known N t c.args.marks.now h.self.lines c.requires.0 c.requires.1 c.requires.2 h.line-index k.0 h.invariant.2)

pub loop-line-preserved : goal.loop-line-preserved
loop-line-preserved c =
    let h = c.loop-line in
    let N = c.args.net.now in
    let t = c.args.tree.now in
    let m = c.line_met.result in
    let k = item N t c.requires.2 h.invariant.0 c.loop-line-test.true in (
      h.invariant.0,
      length-set h.self.lines _ m ∙ h.invariant.1,
      subst (λ l. Done N t c.args.marks.now (set h.self.lines (l - 1) m) (h.line-index + 1)) (sym k.1)
          (done_more N t c.args.marks.now h.self.lines c.requires.0 c.requires.1 c.requires.2 h.invariant.1 h.line-index m k.0 (c.line_met.ensures ∙ ap (λ l. met_on c.args.marks.now (route N l)) k.1) h.invariant.2),
    )

pub returns : goal.returns
returns c =
    let h = c.loop-line in
    let N = c.args.net.now in
    let t = c.args.tree.now in
    done_all N t c.args.marks.now h.self.lines c.requires.0 c.requires.1 c.requires.2 h.line-index (omega (arith, c.loop-line-test.false, items-long N t c.requires.2 h.invariant.0)) h.invariant.2
