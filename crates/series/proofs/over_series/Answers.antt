use Rattle.model.specs.declared.Head.{Head}
use mathlib.Core.Path.{sym, ◌∙◌, ap}
use lib.Dec.{ltb}
use Rattle.series.proofs.InSeries.{series-most}
use Rattle.series.proofs.over_series.Goals as goal

pub returns : goal.returns
returns c =
    (λ i. ltb ((ap (λ (h : Head). h.series) c.head.ensures) i) (c.most_in_series.ensures i)) ∙ sym (series-most c.args.net.now c.requires.0 c.requires.1)
