use Prim.Native.Nat.{ℕ}
use mathlib.Core.Path.{refl}
use native.Mathlib.Omega.{arith}
use Rattle.search.proofs.Extending.{Halfway, some, trying, not-deeper, entering-v, extending, deeper, seeking, leaving, going-on}
use Rattle.search.proofs.Walk.+extend.Goals as goal
use Rattle.search.proofs.Walk.+extend.Goals.{Joined-goes_deeper, then-goes_deeper, else-goes_deeper}

pub with_place-more-requires : goal.with_place-more-requires
with_place-more-requires t c = (trying c.requires c.loop-next.invariant c.in-Some.is, c.requires.tables.behind)

pub enter-requires : goal.enter-requires
enter-requires t c =
    entering-v c.requires c.loop-next.invariant c.in-Some.is c.with_place-more.ensures c.push.ensures.items refl refl c.visit.ensures

pub extend-requires : goal.extend-requires
extend-requires t c = (
  omega (arith, c.decreases, some c.requires c.loop-next.invariant c.in-Some.is),
  extending c.requires c.loop-next.invariant c.in-Some.is c.with_place-more.ensures c.push.ensures.items refl refl c.visit.ensures c.enter.ensures,
)

-- the set with the place is visited, and extended or not
half : (t : ℕ) (c : Joined-goes_deeper t) → Halfway c.requires c.in-Some.place c.if-goes_deeper.pending c.if-goes_deeper.course
half t c = elim c.if-goes_deeper.branch [
  | then-goes_deeper w ↦ rw (w.course-is, w.pending-is) (deeper c.requires c.loop-next.invariant c.in-Some.is c.with_place-more.ensures c.push.ensures.items refl refl c.visit.ensures w.enter.ensures w.extend.ensures)
  | else-goes_deeper w ↦ rw (w.course-is, w.pending-is) (not-deeper c.requires c.loop-next.invariant c.in-Some.is c.with_place-more.ensures c.push.ensures.items refl refl c.visit.ensures (c.goes_deeper.ensures w.if-goes_deeper.false))
]

pub next_after-next-requires : goal.next_after-next-requires
next_after-next-requires t c = seeking c.requires c.loop-next.invariant c.in-Some.is (half t c.before.before) c.pop.ensures.rest

pub loop-next-preserved : goal.loop-next-preserved
loop-next-preserved t c = going-on c.requires c.loop-next.invariant c.in-Some.is (half t c.before.before.before) c.pop.ensures.rest _ refl refl refl c.next_after-next.ensures

pub leave-requires : goal.leave-requires
leave-requires t c = leaving c.requires c.loop-next.invariant.keeps
