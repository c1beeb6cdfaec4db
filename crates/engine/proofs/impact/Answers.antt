use Rattle.std.proofs.Common.{◌∙◌}
use Rattle.std.proofs.lemmas.Result.{err_from_is_err_and}
use Rattle.tree.proofs.Fitting.{line_held}
use Rattle.loading.proofs.Held.{is_loaded}
use Rattle.engine.proofs.Answers.{impact-refused, impact-given, impact-none}
use Rattle.engine.proofs.impact.Goals as goal

pub returns-in_err-loaded : goal.returns-in_err-loaded
returns-in_err-loaded c =
    let p = err_from_is_err_and c.from_residual.result c.from_residual.ensures.1 in
    rw (p.1, p.2) (impact-refused c.args.file.now c.args.line c.in_err-loaded.ensures)

pub returns-then-not-is_line : goal.returns-then-not-is_line
returns-then-not-is_line c = impact-none c.args.file.now c.args.line c.in_ok-loaded.ensures (c.is_line.ensures.1 c.if-not-is_line.true)

pub impact-requires : goal.impact-requires
impact-requires c =
    let inside = c.is_line.ensures.0 c.if-not-is_line.false in
    line_held _ (is_loaded c.in_ok-loaded.loaded).accepted.read (record { low = inside.0; high = inside.1 })

pub returns : goal.returns
returns c =
    let inside = c.is_line.ensures.0 c.if-not-is_line.false in
    impact-given c.args.file.now c.args.line _ c.in_ok-loaded.ensures inside.0 inside.1 (c.impact.ensures ∙ c.impacts-impacts.ensures c.args.line (record { low = inside.0; high = inside.1 }))
