use Rattle.std.proofs.Common.{◌≡◌, true, false, arith, length, rules}
use Rattle.std.proofs.lemmas.Iterator.{first_from_Range}
use Rattle.model.specs.Paths.{line_numbers}
use Rattle.model.specs.Rules.{both_open}
use Rattle.end_rules.specs.First.{first-found}
use Rattle.end_rules.proofs.open_line.Goals as goal

pub returns : goal.returns
unfolding line_numbers
returns c =
    let N = c.args.net.now in
    first-found (both_open N) (length N.lines) _ c.find.result (omega (arith, c.line_count.ensures.count))
    (first_from_Range _ _ _ _ (λ l. both_open N l ≡ true) (λ l. both_open N l ≡ false) c.find.ensures.ran
    (λ x q k. search rules)
    (λ x q k. (search rules, search rules)))
