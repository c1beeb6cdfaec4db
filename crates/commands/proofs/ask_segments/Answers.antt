use Rattle.std.proofs.lemmas.Result.{err_from_is_err_and}
use Rattle.std.proofs.Common.{rules, arith}
use Rattle.commands.proofs.Answering.{segments-refused, segments-fit, segments-left}
use Rattle.commands.proofs.ask_segments.Goals as goal

pub returns-in_err-entries : goal.returns-in_err-entries
returns-in_err-entries c =
    let p = err_from_is_err_and c.from_residual.result c.from_residual.ensures.1 in
    rw (p.1, p.2) (segments-refused c.args.file.now _ (search rules) c.in_err-entries.field-0.0 c.args.out.now c.in_err-entries.ensures.result_value)

pub put_table-requires : goal.put_table-requires
put_table-requires c =
    let k = c.in_ok-entries in
    let f = segments-fit c.args.file.now _ (search rules) k.entries c.segments.new.table k.ensures.result_value k.ensures.table_after in
    (f, omega (arith, f, c.segments.auto.table), search rules)

pub returns : goal.returns
returns c =
    let k = c.in_ok-entries in
    segments-left c.args.file.now _ (search rules) k.entries c.segments.new.table k.ensures.result_value k.ensures.table_after
    c.args.out.now c.put_table.new.out c.put_table.result c.put_table.ensures
