use mathlib.Core.Path.{ap, ◌∙◌}
use Rattle.starts.specs.declared.Prospect.{Prospect}
use Rattle.prospects.proofs.Outlooks.{meets, not-so, not-alike, upstream-taken, upstream-kept}
use Rattle.prospects.proofs.Choice.upstream.Goals as goal
use Rattle.prospects.proofs.Choice.upstream.Goals.{else-behind-via-then-behind+else-is_alike, else-behind-via-else-behind}

pub returns-then-is_alike : goal.returns-then-is_alike
returns-then-is_alike c = c.place_end.ensures ∙ upstream-taken c.requires c.in-Some.is (meets c.requires c.in-Some.is c.between.ensures c.if-behind.ensures c.if-is_alike.ensures)

pub returns : goal.returns
returns c =
    ap (λ (v : Prospect). v.upstream) c.of-upstream.ensures ∙ upstream-kept c.requires c.in-Some.is (elim c.else-behind.branch [
      | else-behind-via-then-behind+else-is_alike w ↦ not-alike c.requires c.in-Some.is w.if-is_alike.ensures
      | else-behind-via-else-behind w ↦ not-so c.requires c.in-Some.is c.between.ensures w.if-behind.ensures
    ])
