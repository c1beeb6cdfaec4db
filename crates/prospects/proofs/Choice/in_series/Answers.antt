use Prim.Native.Nat.{◌+◌, max}
use mathlib.Core.Path.{sym, ap, ◌∙◌}
use native.Mathlib.Omega.{arith}
use Rattle.starts.specs.declared.Prospect.{Prospect}
use Rattle.prospects.proofs.Outlooks.{few, in-series-kept, raised, highest}
use Rattle.prospects.proofs.Choice.in_series.Goals as goal

pub overflow_add-result : goal.overflow_add-result
overflow_add-result c =
    let is = sym c.between.ensures ∙ c.in-Behind.is in
    omega (arith, ap (λ (v : Prospect). v.in_series) c.of-in_series.ensures, raised c.requires c.in-Some.is is, few c.requires c.in-Some.is)

pub overflow_add-of : goal.overflow_add-of
overflow_add-of c =
    let is = sym c.between.ensures ∙ c.in-Above.is in
    omega (arith, ap (λ (v : Prospect). v.in_series) c.of.ensures, highest c.requires c.in-Some.is is, few c.requires c.in-Some.is)

pub returns-in-Apart : goal.returns-in-Apart
returns-in-Apart c = ap (λ (v : Prospect). v.in_series) c.of-in_series.ensures ∙ in-series-kept c.requires c.in-Some.is (sym c.between.ensures ∙ c.in-Apart.is)

pub returns-in-Behind : goal.returns-in-Behind
returns-in-Behind c = ap (λ (v : Prospect). v.in_series + 1) c.of-in_series.ensures ∙ raised c.requires c.in-Some.is (sym c.between.ensures ∙ c.in-Behind.is)

pub returns-in-Above : goal.returns-in-Above
returns-in-Above c =
    let own = ap (λ (v : Prospect). v.in_series) c.of-in_series.ensures in
    let last = ap (λ (v : Prospect). v.in_series + 1) c.of.ensures in
    c.max.ensures ∙ (λ i. max (own i) (last i)) ∙ highest c.requires c.in-Some.is (sym c.between.ensures ∙ c.in-Above.is)
