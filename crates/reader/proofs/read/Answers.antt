use Rattle.std.proofs.Common.{◌≡◌, ap, rules, Err, ◌∙◌}
use Rattle.model.specs.Format.{records_of}
use Rattle.reader.specs.Reading.{first_head}
use Rattle.reader.proofs.Whole.{too_long, head_stopped, stations_stopped, lines_stopped, places_left}
use Rattle.reader.proofs.read.Goals as goal

pub returns-then-too_long : goal.returns-then-too_long
returns-then-too_long c = too_long c.args.file.now (c.too_long.ensures.0 c.if-too_long.true)

pub returns-in_err-read_head : goal.returns-in_err-read_head
returns-in_err-read_head c =
    let file = c.args.file.now in
    let short = c.too_long.ensures.1 c.if-too_long.false in
    let err : c.from_residual.result ≡ Err c.in_err-read_head.field-0.0 = search rules in
    rw err (head_stopped file short _ _ (c.in_err-read_head.ensures.answer ∙ ap (λ bs. first_head (records_of bs)) c.of-records.ensures.0))

pub returns-in_err-read_stations : goal.returns-in_err-read_stations
returns-in_err-read_stations c =
    let file = c.args.file.now in
    let short = c.too_long.ensures.1 c.if-too_long.false in
    let h = c.in_ok-read_head in
    let e₁ = h.ensures.answer ∙ ap (λ bs. first_head (records_of bs)) c.of-records.ensures.0 in
    let rs₁ = records_of c.read_head.new.records.rest.now in
    let err : c.from_residual-in_err-read_stations.result ≡ Err c.in_err-read_stations.field-0.0 = search rules in
    rw err (stations_stopped file short h.field-0 rs₁ e₁ c.clear.new.self c.clear.ensures c.read_head.new.records.number h.ensures.goes_on _ _ c.in_err-read_stations.ensures.answer)

pub returns-in_err-read_lines : goal.returns-in_err-read_lines
returns-in_err-read_lines c =
    let file = c.args.file.now in
    let short = c.too_long.ensures.1 c.if-too_long.false in
    let h = c.in_ok-read_head in
    let e₁ = h.ensures.answer ∙ ap (λ bs. first_head (records_of bs)) c.of-records.ensures.0 in
    let rs₁ = records_of c.read_head.new.records.rest.now in
    let rs₂ = records_of c.read_stations.new.records.rest.now in
    let s = c.in_ok-read_stations.ensures in
    let err : c.from_residual-in_err-read_lines.result ≡ Err c.in_err-read_lines.field-0.0 = search rules in
    rw err (lines_stopped file short h.field-0 rs₁ e₁ c.clear.new.self c.clear.ensures c.read_head.new.records.number h.ensures.goes_on c.read_stations.new.net rs₂ s.answer s.others.0 c.read_stations.new.records.number s.goes_on _ _ c.in_err-read_lines.ensures.answer)

pub returns : goal.returns
returns c =
    let file = c.args.file.now in
    let short = c.too_long.ensures.1 c.if-too_long.false in
    let h = c.in_ok-read_head in
    let e₁ = h.ensures.answer ∙ ap (λ bs. first_head (records_of bs)) c.of-records.ensures.0 in
    let rs₁ = records_of c.read_head.new.records.rest.now in
    let rs₂ = records_of c.read_stations.new.records.rest.now in
    let s = c.in_ok-read_stations.ensures in
    let l = c.in_ok-read_lines.ensures in
    c.read_places.ensures
    ∙ places_left file short h.field-0 rs₁ e₁ c.clear.new.self c.clear.ensures c.read_head.new.records.number h.ensures.goes_on c.read_stations.new.net rs₂ s.answer s.others.0 c.read_stations.new.records.number s.goes_on c.read_lines.new.net (records_of c.read_lines.new.records.rest.now) l.answer c.read_lines.new.records.number l.goes_on.1
