use Rattle.std.proofs.lemmas.Result.{err_from_is_err_and}
use Rattle.engine.proofs.Answers.{check-refused, check-given}
use Rattle.engine.proofs.check.Goals as goal

pub returns-in_err-load : goal.returns-in_err-load
returns-in_err-load c =
    let p = err_from_is_err_and c.from_residual.result c.from_residual.ensures.1 in
    rw (p.1, p.2) (check-refused c.args.file.now c.in_err-load.ensures)

pub returns : goal.returns
returns c = check-given c.args.file.now c.in_ok-load.ensures
