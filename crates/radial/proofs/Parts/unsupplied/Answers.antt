use Rattle.std.proofs.Common.{◌≡◌, true, false, not, arith, length, rules}
use Rattle.std.proofs.lemmas.Iterator.{first_from_Range}
use Rattle.model.specs.Paths.{station_numbers}
use Rattle.model.specs.Rules.{is_supplied}
use Rattle.end_rules.specs.First.{first-found}
use Rattle.radial.proofs.Parts.unsupplied.Goals as goal

pub returns : goal.returns
unfolding station_numbers
returns c =
    let N = c.args.self.now.net.now in
    first-found (λ s. not (is_supplied N s)) (length N.stations) _ c.find.result (omega (arith, c.station_count.ensures.count))
    (first_from_Range _ _ _ _ (λ s. not (is_supplied N s) ≡ true) (λ s. not (is_supplied N s) ≡ false) c.find.ensures.ran
    (λ x q k. search rules)
    (λ x q k. (search rules, search rules)))
