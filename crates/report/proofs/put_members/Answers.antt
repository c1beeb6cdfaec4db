use Rattle.std.proofs.Common.{refl, arith, length-take, length-drop}
use Rattle.text.proofs.Listing.{listed-none, listed_more, listed-all}
use Rattle.report.proofs.put_members.Goals as goal

pub loop-member-init : goal.loop-member-init
loop-member-init c = (omega arith, omega arith, listed-none _ _ _)

pub put_member-at-requires : goal.put_member-at-requires
put_member-at-requires c =
    record { there = c.requires.places.0 c.loop-member.member-index (omega arith); room = simp (length-take, length-drop) (omega arith) }

pub loop-member-preserved : goal.loop-member-preserved
loop-member-preserved c =
    let g = c.loop-member in
    (omega arith, omega arith, listed_more _ _ _ _ _ _ _ _ _ (omega arith) refl (omega arith) g.invariant.2 c.put_member-at.ensures.written)

pub returns : goal.returns
returns c =
    let g = c.loop-member in
    record { written = listed-all _ _ _ _ _ g.member-index (omega arith) g.invariant.2; short = omega arith }
