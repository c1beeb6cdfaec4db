use Rattle.model.specs.declared.Head.{Head}
use mathlib.Core.Path.{◌∙◌, ap}
use native.Mathlib.Omega.{arith}
use Rattle.search.proofs.Trying.{later-in, in-series-is, too_many, few-enough}
use Rattle.search.proofs.Course.may_get.Goals as goal

pub in_series-in_series-requires : goal.in_series-in_series-requires
in_series-in_series-requires c = later-in c.choice.ensures c.requires

pub returns-then-series-in_series : goal.returns-then-series-in_series
returns-then-series-in_series c = too_many c.requires (in-series-is c.choice.ensures c.requires c.in_series-in_series.ensures) (omega (arith, (ap (λ (h : Head). h.series) c.head.ensures), c.if-series-in_series.true))

pub returns : goal.returns
returns c = c.within_means.ensures ∙ few-enough c.requires (in-series-is c.choice.ensures c.requires c.in_series-in_series.ensures) c.cost_with-cost.ensures c.hours_with-hours.ensures (omega (arith, (ap (λ (h : Head). h.series) c.head.ensures), c.if-series-in_series.false))
