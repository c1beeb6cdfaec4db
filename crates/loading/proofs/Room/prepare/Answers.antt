use Rattle.std.proofs.Common.{sym, ◌∙◌}
use Rattle.std.proofs.lemmas.Result.{err_from_is_err_and}
use Rattle.loading.proofs.Turns.{rules-refused, series-refused, series-held}
use Rattle.loading.proofs.Room.prepare.Goals as goal

pub returns-in_err-forest_rules-clause-answer : goal.returns-in_err-forest_rules-clause-answer
returns-in_err-forest_rules-clause-answer c =
    let p = err_from_is_err_and c.from_residual.result c.from_residual.ensures.1 in
    rw (p.1, p.2) (rules-refused c.args.self.now.network c.in_err-forest_rules.field-0.0 c.in_err-forest_rules.ensures.next_value)

pub returns-then-over_series-clause-answer : goal.returns-then-over_series-clause-answer
returns-then-over_series-clause-answer c =
    series-refused c.args.self.now.network c.in_ok-forest_rules.ensures.next_value (sym c.over_series.ensures ∙ c.if-over_series.true)

pub returns-clause-answer : goal.returns-clause-answer
returns-clause-answer c = series-held c.args.self.now.network c.in_ok-forest_rules.ensures.next_value (sym c.over_series.ensures ∙ c.if-over_series.false)
