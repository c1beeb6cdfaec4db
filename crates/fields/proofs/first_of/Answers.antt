use Rattle.std.proofs.Common.{rules, tests, eqb}
use Rattle.std.proofs.lemmas.Iterator.{YieldsList-from_slice}
use Rattle.std.proofs.lemmas.Iterator.Search.{position_from_yields_List}
use Rattle.fields.proofs.Ends.{found-first}
use Rattle.fields.proofs.first_of.Goals as goal

pub returns : goal.returns
returns c =
    let a = c.args in
    found-first a.separator a.bytes.now c.position.result
    (position_from_yields_List (λ b. eqb b a.separator) c.position.new.self _ c.position.result c.position.ensures.ran (YieldsList-from_slice _ c.iter.ensures.rest) (λ x b q k. search (rules, tests)))
