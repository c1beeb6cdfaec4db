use mathlib.Core.Path.{sym, ap, ◌∙◌}
use native.Mathlib.Omega.{arith}
use lib.Dec.{leb}
use Rattle.std.proofs.Common.{rules, tests}
use Rattle.std.specs.Option.{unwrap_or}
use Rattle.std.proofs.lemmas.Iterator.{YieldsList-from_slice}
use Rattle.std.proofs.lemmas.Iterator.Search.{position_from_yields_List}
use Rattle.bounds.proofs.Inserting.{inserted, within, behind_all}
use Rattle.bounds.proofs.insert_falling.Goals as goal

pub returns : goal.returns
returns c =
    let l = c.loop-i in
    let found = position_from_yields_List (λ held. leb held c.args.saving) _ _ c.position.result c.position.ensures.ran (YieldsList-from_slice c.args.list.now.items cc) (λ x b q k. search (rules, tests)) in
    let at = c.unwrap_or-at.ensures ∙ ap (unwrap_or c.position.result) c.len.ensures.value in
    let fits = within c.args.saving c.args.list.now.items found at in
    c.push.ensures.items
    ∙ sym (behind_all l.list.items l.i l.next (omega (arith, c.loop-i-test.false, l.auto, fits, c.len-i-end.ensures.value, l.invariant.1)))
    ∙ l.invariant.0
    ∙ inserted c.args.saving c.args.list.now.items found at
