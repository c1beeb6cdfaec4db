use Rattle.std.proofs.Common.{rules, ◌∙◌}
use Rattle.std.proofs.lemmas.Iterator.{YieldsList-from_slice, YieldsList-from_zip}
use Rattle.std.proofs.lemmas.Iterator.Search.{all_from_yields_List}
use Rattle.model.specs.Ranges.{in_range}
use Rattle.ranges.proofs.Zipped.{all_in_range-zip}
use Rattle.ranges.proofs.all_in_range.Goals as goal

pub returns : goal.returns
returns c =
    let a = c.args in
    let k = a.context in
    all_from_yields_List (λ p. in_range k.stations k.lines k.first p.0 p.1) c.all.new.self _ _ c.all.ensures.ran (YieldsList-from_zip (YieldsList-from_slice a.ranges.now cc) (YieldsList-from_slice a.numbers.now cc)) (λ x t q r. search rules)
    ∙ all_in_range-zip k.stations k.lines k.first a.ranges.now a.numbers.now
