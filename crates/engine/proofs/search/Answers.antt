use Rattle.std.proofs.lemmas.Result.{err_from_is_err_and}
use Rattle.engine.proofs.Calling.{short-refused, file-refused, file-answered}
use Rattle.engine.proofs.search.Goals as goal

pub returns-in_err-long_enough : goal.returns-in_err-long_enough
returns-in_err-long_enough c =
    let p = err_from_is_err_and c.from_residual.result c.from_residual.ensures.1 in
    let s = c.in_err-long_enough.ensures.short in
    let all = short-refused c.args.file.now c.args.members.now s.0 in
    rw (p.1, p.2, s.1) (record { result_value = all.result_value; members_after = all.members_after; demand3 = all.demand3 })

pub returns-in_err-loaded : goal.returns-in_err-loaded
returns-in_err-loaded c =
    let p = err_from_is_err_and c.from_residual-in_err-loaded.result c.from_residual-in_err-loaded.ensures.1 in
    let e = c.in_err-loaded in
    let all = file-refused c.args.file.now c.args.members.now c.in_ok-long_enough.ensures.enough e.field-0.0 e.ensures in
    rw (p.1, p.2) (record { result_value = all.result_value; members_after = all.members_after; demand3 = all.demand3 })

pub returns : goal.returns
returns c =
    let l = c.in_ok-loaded in
    let w = c.search_network-plan in
    let all = file-answered c.args.file.now c.args.members.now c.in_ok-long_enough.ensures.enough l.loaded.network.now l.ensures w.result w.ensures.found c.put_members.new.lent c.put_members.ensures in
    rw c.outcome_of.ensures (record { result_value = all.result_value; members_after = all.members_after; demand3 = all.demand3 })
