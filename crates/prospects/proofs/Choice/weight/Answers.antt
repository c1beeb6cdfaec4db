use mathlib.Core.Path.{ap, ◌∙◌}
use native.Mathlib.Omega.{arith}
use Rattle.starts.specs.declared.Prospect.{Prospect}
use Rattle.prospects.proofs.Outlooks.{meets, not-so, not-alike, weight-taken, weight-kept}
use Rattle.prospects.proofs.Choice.weight.Goals as goal
use Rattle.prospects.proofs.Choice.weight.Goals.{else-above-via-then-above+else-is_alike, else-above-via-else-above}

pub overflow_sub-result : goal.overflow_sub-result
overflow_sub-result c = omega (arith, weight-taken c.requires c.in-Some.is c.of-weight.ensures c.of.ensures (meets c.requires c.in-Some.is c.between.ensures c.if-above.ensures c.if-is_alike.ensures))

pub returns-then-is_alike : goal.returns-then-is_alike
returns-then-is_alike c = omega (arith, weight-taken c.requires c.in-Some.is c.of-weight.ensures c.of.ensures (meets c.requires c.in-Some.is c.between.ensures c.if-above.ensures c.if-is_alike.ensures))

pub returns : goal.returns
returns c =
    ap (λ (v : Prospect). v.weight) c.of-weight.ensures ∙ weight-kept c.requires c.in-Some.is (elim c.else-above.branch [
      | else-above-via-then-above+else-is_alike w ↦ not-alike c.requires c.in-Some.is w.if-is_alike.ensures
      | else-above-via-else-above w ↦ not-so c.requires c.in-Some.is c.between.ensures w.if-above.ensures
    ])
