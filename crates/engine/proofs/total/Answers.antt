use Rattle.std.proofs.lemmas.Result.{err_from_is_err_and}
use Rattle.std.proofs.Common.{◌∙◌}
use Rattle.loading.proofs.Held.{is_loaded}
use Rattle.engine.proofs.Answers.{total-refused, total-given}
use Rattle.engine.proofs.total.Goals as goal

pub returns-in_err-loaded : goal.returns-in_err-loaded
returns-in_err-loaded c =
    let p = err_from_is_err_and c.from_residual.result c.from_residual.ensures.1 in
    rw (p.1, p.2) (total-refused c.args.file.now c.in_err-loaded.ensures)

pub total_of-requires : goal.total_of-requires
total_of-requires c = ((is_loaded c.in_ok-loaded.loaded).accepted.read, c.impacts-impacts.ensures)

pub figure_of-figure-requires : goal.figure_of-figure-requires
figure_of-figure-requires c = ((is_loaded c.in_ok-loaded.loaded).accepted.read, c.from-total.ensures ∙ c.total_of.ensures)

pub returns : goal.returns
returns c =
    total-given c.args.file.now c.from-total.result c.figure_of-figure.result c.in_ok-loaded.ensures (c.from-total.ensures ∙ c.total_of.ensures) c.figure_of-figure.ensures
