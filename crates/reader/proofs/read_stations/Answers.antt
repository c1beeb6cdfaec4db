use Rattle.std.proofs.Common.{◌≡◌, ◌+◌, ◌-◌, ◌≤◌, [], ◌∷◌, length, ap, sym, subst, refl, rules, arith, Err, ◌∙◌}
use lib.ListN.{length-append}
use Rattle.model.specs.Format.{records_of}
use Rattle.model.specs.Ranges.{row_s}
use Rattle.model.specs.Network.{kind_s, value, station_of}
use Rattle.ranges.specs.Kinds.{kind_of}
use Rattle.network.specs.Changed.{with_one_more_station}
use Rattle.reader.specs.Reading.{left_says}
use Rattle.reader.proofs.Ranged.{station-bounds}
use Rattle.reader.proofs.Turns.{turned, stopped, turn, stations_part, stations-turn}
use Rattle.reader.proofs.read_stations.Goals as goal

pub loop-init : goal.loop-init
loop-init c =
    let N = c.args.net.now in
    let i = c.args.records.now.number in
    let rs = records_of c.args.records.now.rest.now in record {
      answer = stations-turn N i rs c.head-head.result.now c.head-head.ensures _ (omega arith);
      head = refl;
      others = (refl, refl);
      first = c.head-head.ensures;
      count = ap (λ xs. length xs) c.requires.0;
      number = omega arith;
    }

pub returns-in_err-row-clause-answer : goal.returns-in_err-row-clause-answer
unfolding kind_of stations_part
returns-in_err-row-clause-answer c =
    let h = c.head-head.result.now in
    let l = c.loop in
    let rs = records_of l.records.rest.now in
    let refused : c.from_residual.result ≡ Err c.in_err-row.field-0.0 = search rules in
    ap (λ r. left_says r l.net c.next.new.self.rest.now) refused
    ∙ sym (stopped stations_part h l.net l.records.number rs (h.stations - l.counter) (h.stations - (l.counter + 1)) (omega arith) _ _ c.in_err-row.ensures.numbers)
    ∙ l.invariant.answer

pub station_of-requires : goal.station_of-requires
unfolding kind_of kind_s row_s
station_of-requires c =
    let row = c.in_ok-row in
    let len = ap (λ vs. length vs) c.deref.ensures.0 ∙ row.ensures.width in
    let b = station-bounds c.head-head.result.now.stations c.head-head.result.now.lines row.row.items row.ensures.width row.ensures.ranges in
    (len, subst (λ vs. value vs 0 ≤ 1) (sym c.deref.ensures.0) b)

pub loop-preserved : goal.loop-preserved
unfolding kind_of stations_part with_one_more_station
loop-preserved c =
    let h = c.head-head.result.now in
    let l = c.loop in
    let vs = c.in_ok-row.row.items in
    let rs = records_of l.records.rest.now in
    let rest = records_of c.next.new.self.rest.now in
    let on = c.in_ok-row.ensures.goes_on.0 in
    let m : c.add_station.new.self ≡ with_one_more_station l.net (station_of vs) = c.add_station.ensures ∙ ap (with_one_more_station l.net) (c.station_of.ensures ∙ ap station_of c.deref.ensures.0) in record {
      answer = sym (turn stations_part h l.net l.records.number rs (h.stations - l.counter) (h.stations - (l.counter + 1)) (omega arith) vs rest c.in_ok-row.ensures.numbers _ m _ on)
          ∙ l.invariant.answer;
      head = ap (λ M. M.head) m ∙ l.invariant.head;
      others = (ap (λ M. M.lines) m ∙ l.invariant.others.0, ap (λ M. M.places) m ∙ l.invariant.others.1);
      first = l.invariant.first;
      count = ap (λ M. length M.stations) m ∙ length-append l.net.stations (station_of vs ∷ []) ∙ ap (λ n. n + 1) l.invariant.count;
      number = omega (arith, on);
    }

pub returns-clause-answer : goal.returns-clause-answer
returns-clause-answer c =
    let h = c.head-head.result.now in
    let l = c.loop in
    let rs = records_of l.records.rest.now in
    sym (turned stations_part h l.net l.records.number rs (h.stations - l.counter) (omega arith)) ∙ l.invariant.answer
