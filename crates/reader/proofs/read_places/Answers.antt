use Rattle.std.proofs.Common.{◌≡◌, ◌≤◌, length, ap, sym, subst, rules, arith, Err, ◌∙◌}
use Rattle.model.specs.Answer.{refused}
use Rattle.model.specs.Format.{records_of}
use Rattle.model.specs.Ranges.{row_p}
use Rattle.model.specs.Network.{kind_p, value, place_of}
use Rattle.ranges.specs.Kinds.{kind_of}
use Rattle.network.specs.Changed.{with_places, with_one_more}
use Rattle.network.specs.View.{place_of_held}
use Rattle.reader.specs.Reading.{says_of, last_place}
use Rattle.reader.proofs.Ranged.{place-bounds}
use Rattle.reader.proofs.Placed.{not-65th}
use Rattle.reader.proofs.Places.{reading, places-read, ended, stopped, misplaced, next}
use Rattle.reader.proofs.read_places.Goals as goal

pub loop-head-init : goal.loop-head-init
loop-head-init c =
    let N = c.args.net.now in
    let i = c.args.records.now.number in
    let rs = records_of c.args.records.now.rest.now in record {
      answer = ap (λ h. reading h N i rs) c.head-head.ensures ∙ places-read N i rs;
      lines = c.requires ∙ sym (ap (λ h. h.lines) c.head-head.ensures);
    }

pub returns-in_err-row : goal.returns-in_err-row
unfolding kind_of
returns-in_err-row c =
    let l = c.loop-head in
    let none : c.from_residual.result ≡ Err c.in_err-row.field-0.0 = search rules in
    ap (λ r. says_of r l.net) none
    ∙ sym (stopped c.head-head.result.now l.net l.records.number l.records.rest.now c.loop-head-test.ensures _ _ c.in_err-row.ensures.numbers)
    ∙ l.invariant.answer

pub place_of-place-requires : goal.place_of-place-requires
unfolding kind_of kind_p row_p
place_of-place-requires c =
    let h = c.head-head.result.now in
    let row = c.in_ok-row in
    let b = place-bounds h.stations h.lines row.row.items row.ensures.width row.ensures.ranges in (
      ap (λ vs. length vs) c.deref.ensures.0 ∙ row.ensures.width,
      subst (λ vs. 1 ≤ value vs 1) (sym c.deref.ensures.0) b.2,
      subst (λ vs. value vs 1 ≤ 2) (sym c.deref.ensures.0) b.3,
    )

pub well_placed-requires : goal.well_placed-requires
unfolding kind_of kind_p row_p place_of
well_placed-requires c =
    let h = c.head-head.result.now in
    let l = c.loop-head in
    let row = c.in_ok-row in
    let vs = row.row.items in
    let p : place_of_held c.place_of-place.result ≡ place_of vs = c.place_of-place.ensures ∙ ap place_of c.deref.ensures.0 in
    let b = place-bounds h.stations h.lines vs row.ensures.width row.ensures.ranges in
    let line : c.place_of-place.result.line ≡ value vs 0 = ap (λ q. q.line) p in
    record { low = omega (arith, line, b.0); high = omega (arith, line, b.1, l.invariant.lines) }

pub returns-then-not-well_placed : goal.returns-then-not-well_placed
unfolding kind_of
returns-then-not-well_placed c =
    let l = c.loop-head in
    let row = c.in_ok-row in
    let place = c.place_of-place.ensures ∙ ap place_of c.deref.ensures.0 in
    ap (λ n. refused 3 n) c.number-record.ensures
    ∙ sym (misplaced c.head-head.result.now l.net l.records.number l.records.rest.now c.loop-head-test.ensures row.row.items _ row.ensures.numbers _ place c.if-not-well_placed.ensures)
    ∙ l.invariant.answer

pub add_place-requires : goal.add_place-requires
add_place-requires c =
    let l = c.loop-head in
    not-65th l.net.lines (length l.net.places) (last_place l.net.places) _ c.if-not-well_placed.ensures

pub loop-head-preserved : goal.loop-head-preserved
unfolding kind_of with_one_more with_places
loop-head-preserved c =
    let l = c.loop-head in
    let row = c.in_ok-row in
    let place = c.place_of-place.ensures ∙ ap place_of c.deref.ensures.0 in record {
      answer = sym (next c.head-head.result.now l.net l.records.number l.records.rest.now c.loop-head-test.ensures row.row.items _ row.ensures.numbers _ place c.if-not-well_placed.ensures _ c.add_place.ensures _ row.ensures.goes_on.0)
          ∙ l.invariant.answer;
      lines = ap (λ M. length M.lines) c.add_place.ensures ∙ l.invariant.lines;
    }

pub returns : goal.returns
returns c =
    let l = c.loop-head in
    sym (ended c.head-head.result.now l.net l.records.number l.records.rest.now c.loop-head-test.ensures) ∙ l.invariant.answer
