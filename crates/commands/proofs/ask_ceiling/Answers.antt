use Rattle.std.proofs.lemmas.Result.{err_from_is_err_and}
use Rattle.commands.proofs.Answering.{ceiling-refused, ceiling-left}
use Rattle.commands.proofs.ask_ceiling.Goals as goal

pub returns-in_err-sets : goal.returns-in_err-sets
returns-in_err-sets c =
    let p = err_from_is_err_and c.from_residual.result c.from_residual.ensures.1 in
    rw (p.1, p.2) (λ file. ceiling-refused file c.args.out.now c.in_err-sets.field-0.0 c.args.places c.args.additions c.in_err-sets.ensures)

pub returns : goal.returns
returns c file =
    ceiling-left file c.args.out.now c.put_line.new.buf c.put_line.result c.args.places c.args.additions c.in_ok-sets.sets c.in_ok-sets.ensures c.put_line.ensures.written
