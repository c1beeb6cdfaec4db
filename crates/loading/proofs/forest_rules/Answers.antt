use Rattle.std.proofs.Common.{sym, ap, ◌∙◌}
use Rattle.model.specs.Rules.{some_joined}
use Rattle.network.specs.Found.{found}
use Rattle.loading.proofs.Turns.{unsupplied_station, open-small, plain-small, unsupplied-small, says-4, says-5, says-6, says-7, says-8, says-ok}
use Rattle.loading.proofs.forest_rules.Goals as goal

pub line_record-requires : goal.line_record-requires
line_record-requires c = (c.requires, open-small c.args.net.now c.requires c.in-Some.ensures)

pub returns-in-Some-clause-next_value : goal.returns-in-Some-clause-next_value
returns-in-Some-clause-next_value c = (says-4 c.args.net.now c.in-Some.ensures c.line_record.ensures).0

pub line_record-requires-in-Some-plain_at_hv : goal.line_record-requires-in-Some-plain_at_hv
line_record-requires-in-Some-plain_at_hv c = (c.requires, plain-small c.args.net.now c.requires c.in-Some-plain_at_hv.ensures)

pub returns-in-Some-plain_at_hv-clause-next_value : goal.returns-in-Some-plain_at_hv-clause-next_value
returns-in-Some-plain_at_hv-clause-next_value c =
    (says-5 c.args.net.now c.in_default.ensures c.in-Some-plain_at_hv.ensures c.line_record-in-Some-plain_at_hv.ensures).0

pub returns-in_default-of-clause-next_value : goal.returns-in_default-of-clause-next_value
returns-in_default-of-clause-next_value c =
    (says-6 c.args.net.now c.in_default.ensures c.in_default-plain_at_hv.ensures (sym c.in_default-of.ensures.returns)).0

pub returns-then-hv_joined-clause-next_value : goal.returns-then-hv_joined-clause-next_value
returns-then-hv_joined-clause-next_value c =
    (says-7 c.args.net.now c.in_default.ensures c.in_default-plain_at_hv.ensures (sym c.in-Some-of.ensures.returns)
    (ap some_joined (sym c.in-Some-of.ensures.network) ∙ sym c.hv_joined.ensures ∙ c.if-hv_joined.true)).0

pub station_record-requires : goal.station_record-requires
station_record-requires c = unsupplied-small c.args.net.now c.requires (c.in-Some-unsupplied.ensures ∙ ap (λ N. found (unsupplied_station N)) c.in-Some-of.ensures.network)

pub returns-in-Some-unsupplied-clause-next_value : goal.returns-in-Some-unsupplied-clause-next_value
returns-in-Some-unsupplied-clause-next_value c =
    (says-8 c.args.net.now c.in_default.ensures c.in_default-plain_at_hv.ensures (sym c.in-Some-of.ensures.returns)
    (ap some_joined (sym c.in-Some-of.ensures.network) ∙ sym c.hv_joined.ensures ∙ c.if-hv_joined.false) (c.in-Some-unsupplied.ensures ∙ ap (λ N. found (unsupplied_station N)) c.in-Some-of.ensures.network) c.station_record.ensures).0

pub returns-clause-next_value : goal.returns-clause-next_value
returns-clause-next_value c =
    (says-ok c.args.net.now c.in_default.ensures c.in_default-plain_at_hv.ensures (sym c.in-Some-of.ensures.returns)
    (ap some_joined (sym c.in-Some-of.ensures.network) ∙ sym c.hv_joined.ensures ∙ c.if-hv_joined.false) (c.in_default-unsupplied.ensures ∙ ap (λ N. found (unsupplied_station N)) c.in-Some-of.ensures.network)).0

pub returns-clause-rules : goal.returns-clause-rules
returns-clause-rules c =
    (says-ok c.args.net.now c.in_default.ensures c.in_default-plain_at_hv.ensures (sym c.in-Some-of.ensures.returns)
    (ap some_joined (sym c.in-Some-of.ensures.network) ∙ sym c.hv_joined.ensures ∙ c.if-hv_joined.false) (c.in_default-unsupplied.ensures ∙ ap (λ N. found (unsupplied_station N)) c.in-Some-of.ensures.network)).1
