use Rattle.std.proofs.lemmas.Result.{err_from_is_err_and}
use Rattle.engine.proofs.Tabling.{short-refused, file-refused, file-tabled}
use Rattle.engine.proofs.segments.Goals as goal

pub returns-in_err-long_enough : goal.returns-in_err-long_enough
returns-in_err-long_enough c =
    let p = err_from_is_err_and c.from_residual.result c.from_residual.ensures.1 in
    let s = c.in_err-long_enough.ensures.short in
    let all = short-refused c.args.file.now c.args.table.now s.0 in
    rw (p.1, p.2, s.1) (record { result_value = all.result_value; table_after = all.table_after; breaker_by_breaker = all.breaker_by_breaker })

pub returns-in_err-loaded : goal.returns-in_err-loaded
returns-in_err-loaded c =
    let p = err_from_is_err_and c.from_residual-in_err-loaded.result c.from_residual-in_err-loaded.ensures.1 in
    let e = c.in_err-loaded in
    let all = file-refused c.args.file.now c.args.table.now c.in_ok-long_enough.ensures.enough e.field-0.0 e.ensures in
    rw (p.1, p.2) (record { result_value = all.result_value; table_after = all.table_after; breaker_by_breaker = all.breaker_by_breaker })

pub returns : goal.returns
returns c =
    let l = c.in_ok-loaded in
    let w = c.table_network in
    let all = file-tabled c.args.file.now c.args.table.now c.in_ok-long_enough.ensures.enough l.loaded.network.now l.ensures w.result w.new.table w.ensures.0 w.ensures.1 in
    record { result_value = all.result_value; table_after = all.table_after; breaker_by_breaker = all.breaker_by_breaker }
