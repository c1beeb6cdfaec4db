use mathlib.Core.Path.{ap, ◌∙◌}
use mathlib.Core.Bool.{not}
use native.Mathlib.Omega.{arith}
use Rattle.search.proofs.Visiting.{none-is}
use Rattle.search.proofs.Course.leave.Goals as goal

pub later-places-requires : goal.later-places-requires
later-places-requires c =
    let r = c.requires c.in-Some.last c.in-Some.is (none-is c.args.pending (c.is_none.ensures ∙ ap not c.if-is_none.true)) in
    (r.1, r.2)

pub leave-requires : goal.leave-requires
leave-requires c =
    let r = c.requires c.in-Some.last c.in-Some.is (none-is c.args.pending (c.is_none.ensures ∙ ap not c.if-is_none.true)) in
    (omega (arith, r.0, c.len.ensures.value), rw c.later-places.ensures r.3)
