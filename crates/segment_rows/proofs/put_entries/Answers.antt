use native.Mathlib.Omega.{arith}
use lib.ListN.{length-take, length-drop}
use Rattle.theory.specs.Sizes.{numbers-length}
use Rattle.text.proofs.Listing.{listed-none, listed_more, listed-all, number_is}
use Rattle.segment_rows.specs.Rows.{entry_rows}
use Rattle.segment_rows.proofs.put_entries.Goals as goal

pub loop-i-init : goal.loop-i-init
loop-i-init c = (omega arith, omega arith, listed-none _ _ _)

pub put_entry-at-requires : goal.put_entry-at-requires
put_entry-at-requires c =
    let g = c.loop-i in
    (omega arith, simp (length-take, length-drop) (omega (arith, g.invariant.2.long)))

pub loop-i-preserved : goal.loop-i-preserved
loop-i-preserved c =
    let g = c.loop-i in
    let p = c.put_entry-at in
    (omega arith, omega arith, listed_more _ _ _ _ _ _ _ _ _ (omega (arith, numbers-length 0 c.args.entries)) (omega (arith, number_is 0 c.args.entries g.i (omega arith))) (omega arith) g.invariant.2 p.ensures.0)

pub returns : goal.returns
unfolding entry_rows
returns c = (listed-all _ _ _ _ _ c.loop-i.i (omega (arith, numbers-length 0 c.args.entries)) c.loop-i.invariant.2, omega arith)
