use Prim.Native.Nat.{◌+◌}
use mathlib.Core.Path.{◌≡◌}
use native.Mathlib.Omega.{arith}
use Rattle.relations.proofs.Listing.{rows_next}
use Rattle.relations.proofs.Relations.list_later.Goals as goal

pub loop-q-preserved : goal.loop-q-preserved
loop-q-preserved c =
    let h = c.loop-q in
    let i = h.invariant in (
      omega (arith, c.push.ensures.len, i.0),
      i.1,
      rows_next (λ row. row.items) h.self.between h.self.later.items c.push.new.self.items c.row-row.result c.args.count h.q c.push.ensures.items i.0 c.row-row.ensures i.2,
    )

pub returns-clause-lists : goal.returns-clause-lists
returns-clause-lists c =
    let i = c.loop-q.invariant in
    let all : c.loop-q.q ≡ c.args.count + 1 = omega (arith, c.loop-q-test.false, c.loop-q.auto.q-end) in
    record { rows = omega (arith, i.0, all); each = λ q a b. i.2 q a (omega (arith, all)) }

pub returns-clause-count : goal.returns-clause-count
returns-clause-count c = omega (arith, c.loop-q.invariant.0, c.loop-q-test.false, c.loop-q.auto.q-end)
