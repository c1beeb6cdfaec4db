use mathlib.Core.Path.{refl, sym, ap, ◌∙◌}
use native.Mathlib.Omega.{arith}
use Rattle.relations.specs.Lists.{is_related}
use Rattle.relations.proofs.Listing.{listed-past, listed_more, related, not-related}
use Rattle.relations.proofs.Relations.row.Goals as goal
use Rattle.relations.proofs.Relations.row.Goals.{then-is_related, else-is_related}

pub loop-p-preserved : goal.loop-p-preserved
loop-p-preserved c =
    let h = c.loop-p in
    let i = h.invariant in
    let between = c.args.self.now.between in
    let e = ap is_related (sym c.between.ensures) ∙ sym c.is_related.ensures in
    elim c.if-is_related.branch [
      | then-is_related w ↦ rw (w.row-is, w.push.ensures.items) (refl, omega arith, omega arith, listed_more i.3 i.1 (related _ (e ∙ w.if-is_related.true)))
      | else-is_related w ↦ rw w.row-is (refl, omega arith, omega arith, listed-past i.3 i.1 (not-related _ (e ∙ w.if-is_related.false)))
    ]
