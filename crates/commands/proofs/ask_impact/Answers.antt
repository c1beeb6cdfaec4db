use Rattle.std.proofs.lemmas.Result.{err_from_is_err_and}
use Rattle.commands.proofs.Answering.{impact-refused, impact-left}
use Rattle.commands.proofs.ask_impact.Goals as goal

pub returns-in_err-customers : goal.returns-in_err-customers
returns-in_err-customers c =
    let p = err_from_is_err_and c.from_residual.result c.from_residual.ensures.1 in
    rw (p.1, p.2) (impact-refused c.args.file.now c.args.out.now c.in_err-customers.field-0.0 c.args.line c.in_err-customers.ensures)

pub returns : goal.returns
returns c = impact-left c.args.file.now c.args.out.now c.put_line.new.buf c.put_line.result c.args.line c.in_ok-customers.customers c.in_ok-customers.ensures c.put_line.ensures.written
