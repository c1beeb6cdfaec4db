use Rattle.std.proofs.Common.{◌≡◌, ◌+◌, ◌-◌, ◌≤◌, [], ◌∷◌, length, ap, sym, subst, refl, rules, arith, Err, ◌∙◌}
use lib.ListN.{length-append}
use Rattle.model.specs.Format.{records_of}
use Rattle.model.specs.Ranges.{row_l}
use Rattle.model.specs.Network.{kind_l, value, line_of}
use Rattle.ranges.specs.Kinds.{kind_of}
use Rattle.network.specs.Changed.{with_lines, with_one_more_line}
use Rattle.reader.specs.Reading.{left_says}
use Rattle.reader.proofs.Ranged.{line-bounds}
use Rattle.reader.proofs.Turns.{turned, stopped, turn, lines_part, lines-turn}
use Rattle.reader.proofs.read_lines.Goals as goal

pub loop-init : goal.loop-init
loop-init c =
    let N = c.args.net.now in
    let i = c.args.records.now.number in
    let rs = records_of c.args.records.now.rest.now in record {
      answer = lines-turn N i rs c.head-head.result.now c.head-head.ensures _ (omega arith);
      head = refl;
      others = (refl, refl);
      first = c.head-head.ensures;
      count = ap (λ xs. length xs) c.requires.0;
      number = omega arith;
    }

pub returns-in_err-row-clause-answer : goal.returns-in_err-row-clause-answer
unfolding kind_of lines_part
returns-in_err-row-clause-answer c =
    let h = c.head-head.result.now in
    let l = c.loop in
    let rs = records_of l.records.rest.now in
    let refused : c.from_residual.result ≡ Err c.in_err-row.field-0.0 = search rules in
    ap (λ r. left_says r l.net c.next.new.self.rest.now) refused
    ∙ sym (stopped lines_part h l.net l.records.number rs (h.lines - l.counter) (h.lines - (l.counter + 1)) (omega arith) _ _ c.in_err-row.ensures.numbers)
    ∙ l.invariant.answer

pub line_of-requires : goal.line_of-requires
unfolding kind_of kind_l row_l
line_of-requires c =
    let row = c.in_ok-row in
    let len = ap (λ vs. length vs) c.deref.ensures.0 ∙ row.ensures.width in
    let b = line-bounds c.head-head.result.now.stations c.head-head.result.now.lines row.row.items row.ensures.width row.ensures.ranges in
    (len, subst (λ vs. value vs 3 ≤ 2) (sym c.deref.ensures.0) b.0, subst (λ vs. value vs 4 ≤ 2) (sym c.deref.ensures.0) b.1)

pub loop-preserved : goal.loop-preserved
unfolding kind_of lines_part with_one_more_line with_lines
loop-preserved c =
    let h = c.head-head.result.now in
    let l = c.loop in
    let vs = c.in_ok-row.row.items in
    let rs = records_of l.records.rest.now in
    let rest = records_of c.next.new.self.rest.now in
    let on = c.in_ok-row.ensures.goes_on.0 in
    let m : c.add_line.new.self ≡ with_one_more_line l.net (line_of vs) = c.add_line.ensures ∙ ap (with_one_more_line l.net) (c.line_of.ensures ∙ ap line_of c.deref.ensures.0) in record {
      answer = sym (turn lines_part h l.net l.records.number rs (h.lines - l.counter) (h.lines - (l.counter + 1)) (omega arith) vs rest c.in_ok-row.ensures.numbers _ m _ on)
          ∙ l.invariant.answer;
      head = ap (λ M. M.head) m ∙ l.invariant.head;
      others = (ap (λ M. M.stations) m ∙ l.invariant.others.0, ap (λ M. M.places) m ∙ l.invariant.others.1);
      first = l.invariant.first;
      count = ap (λ M. length M.lines) m ∙ length-append l.net.lines (line_of vs ∷ []) ∙ ap (λ n. n + 1) l.invariant.count;
      number = omega (arith, on);
    }

pub returns-clause-answer : goal.returns-clause-answer
returns-clause-answer c =
    let h = c.head-head.result.now in
    let l = c.loop in
    let rs = records_of l.records.rest.now in
    sym (turned lines_part h l.net l.records.number rs (h.lines - l.counter) (omega arith)) ∙ l.invariant.answer
