use Rattle.std.proofs.Common.{◌≡◌, ap, rules, sym, None, Some, Err, ◌∙◌}
use Rattle.model.specs.declared.Refusal.TheVariants.{Malformed}
use Rattle.model.specs.Format.{records_of}
use Rattle.ranges.specs.Kinds.{kind_of}
use Rattle.records.specs.Records.{numbers, closed_says, record_says}
use Rattle.model.specs.Ranges.{all_in_range}
use Rattle.model.specs.Network.{value}
use Rattle.records.proofs.Next.{unread, wrong-form, wrong-range, right}
use Rattle.records.proofs.read_record.Goals as goal

pub returns-in_err-bytes-clause-numbers : goal.returns-in_err-bytes-clause-numbers
returns-in_err-bytes-clause-numbers c =
    let a = c.args in
    let none : c.first_closed.result ≡ None = search rules in
    let refused : c.from_residual.result ≡ Err (Malformed a.number) = search rules in
    ap record_says refused
    ∙ sym (unread a.stations a.lines a.number (kind_of a.kind) (records_of a.rest.now) (ap closed_says (sym none) ∙ c.first_closed.ensures.bytes))

pub returns-in_err-row-clause-numbers : goal.returns-in_err-row-clause-numbers
returns-in_err-row-clause-numbers c =
    let a = c.args in
    let p = c.in_ok-bytes in
    let closed : c.first_closed.result ≡ Some (p.bytes, p.behind) = search rules in
    let none : c.row_of.result ≡ None = search rules in
    let refused : c.from_residual-in_err-row.result ≡ Err (Malformed a.number) = search rules in
    ap record_says refused
    ∙ sym (wrong-form a.stations a.lines a.number (kind_of a.kind) (records_of a.rest.now) p.bytes.now (records_of p.behind.now)
    (ap closed_says (sym closed) ∙ c.first_closed.ensures.bytes) (ap numbers (sym none) ∙ c.row_of.ensures.numbers))

pub returns-then-not-in_ranges-clause-numbers : goal.returns-then-not-in_ranges-clause-numbers
returns-then-not-in_ranges-clause-numbers c =
    let a = c.args in
    let k = kind_of a.kind in
    let p = c.in_ok-bytes in
    let closed : c.first_closed.result ≡ Some (p.bytes, p.behind) = search rules in
    let some : c.row_of.result ≡ Some c.in_ok-row.row = search rules in
    sym (wrong-range a.stations a.lines a.number k (records_of a.rest.now) p.bytes.now (records_of p.behind.now)
    (ap closed_says (sym closed) ∙ c.first_closed.ensures.bytes) c.in_ok-row.row.items (ap numbers (sym some) ∙ c.row_of.ensures.numbers)
    (c.if-not-in_ranges.ensures ∙ ap (λ vs. all_in_range a.stations a.lines (value vs 0) k.ranges vs) c.deref.ensures.0))

pub returns-clause-numbers : goal.returns-clause-numbers
returns-clause-numbers c =
    let a = c.args in
    let k = kind_of a.kind in
    let p = c.in_ok-bytes in
    let closed : c.first_closed.result ≡ Some (p.bytes, p.behind) = search rules in
    let some : c.row_of.result ≡ Some c.in_ok-row.row = search rules in
    sym (right a.stations a.lines a.number k (records_of a.rest.now) p.bytes.now (records_of p.behind.now)
    (ap closed_says (sym closed) ∙ c.first_closed.ensures.bytes) c.in_ok-row.row.items (ap numbers (sym some) ∙ c.row_of.ensures.numbers)
    (c.if-not-in_ranges.ensures ∙ ap (λ vs. all_in_range a.stations a.lines (value vs 0) k.ranges vs) c.deref.ensures.0))
