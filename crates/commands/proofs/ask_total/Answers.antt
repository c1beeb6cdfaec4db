use Rattle.std.proofs.lemmas.Result.{err_from_is_err_and}
use Rattle.commands.proofs.Answering.{total-refused, total_left}
use Rattle.commands.proofs.ask_total.Goals as goal

pub returns-in_err-totals : goal.returns-in_err-totals
returns-in_err-totals c =
    let p = err_from_is_err_and c.from_residual.result c.from_residual.ensures.1 in
    rw (p.1, p.2) (total-refused c.args.file.now c.args.out.now c.in_err-totals.field-0.0 c.in_err-totals.ensures)

pub returns : goal.returns
returns c = total_left c.args.file.now c.args.out.now c.put_line.new.buf c.put_line.result c.in_ok-totals.totals c.in_ok-totals.ensures c.put_line.ensures.written
