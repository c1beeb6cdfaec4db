use Rattle.std.proofs.Common.{◌≡◌, ap, sym, subst, ◌≤◌, rules, Err, ◌∙◌}
use Rattle.model.specs.Answer.{given, ◌>>=◌}
use Rattle.model.specs.Format.{records_of}
use Rattle.model.specs.Ranges.{row_n}
use Rattle.model.specs.Network.{kind_n, head_of}
use Rattle.ranges.specs.Kinds.{kind_of}
use Rattle.records.specs.Records.{next_record}
use Rattle.reader.specs.Reading.{head_says, first_head}
use Rattle.reader.proofs.Ranged.{head-bounds}
use Rattle.reader.proofs.read_head.Goals as goal

pub returns-in_err-row-clause-answer : goal.returns-in_err-row-clause-answer
unfolding first_head kind_of
returns-in_err-row-clause-answer c =
    let rs = records_of c.args.records.now.rest.now in
    let refused : c.from_residual.result ≡ Err c.in_err-row.field-0.0 = search rules in
    ap (λ r. head_says r c.next.new.self.rest.now) refused
    ∙ ap (λ a. a >>= λ p. given (head_of p.0, p.1)) (c.in_err-row.ensures.numbers ∙ ap (λ i. next_record 0 0 i kind_n rs) c.requires)

pub head_of-requires : goal.head_of-requires
unfolding kind_of kind_n row_n
head_of-requires c = search rules

pub returns-clause-answer : goal.returns-clause-answer
unfolding first_head kind_of
returns-clause-answer c =
    let rs = records_of c.args.records.now.rest.now in
    ap (λ h. given (h, records_of c.next.new.self.rest.now)) (c.head_of.ensures ∙ ap head_of c.deref.ensures.0)
    ∙ ap (λ a. a >>= λ p. given (head_of p.0, p.1)) (c.in_ok-row.ensures.numbers ∙ ap (λ i. next_record 0 0 i kind_n rs) c.requires)

pub returns-clause-few : goal.returns-clause-few
unfolding kind_of kind_n row_n head_of
returns-clause-few c =
    let row = c.in_ok-row in
    let b = head-bounds 0 0 row.row.items row.ensures.width row.ensures.ranges in
    let h = c.head_of.ensures ∙ ap head_of c.deref.ensures.0 in
    (subst (λ n. n ≤ 512) (sym (ap (λ x. x.stations) h)) b.0, subst (λ n. n ≤ 768) (sym (ap (λ x. x.lines) h)) b.1)
