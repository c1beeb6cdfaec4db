use Rattle.std.proofs.lemmas.Result.{err_from_is_err_and}
use Rattle.model.specs.Commands.{commanded, plan_text}
use Rattle.loading.proofs.Held.{is_loaded}
use Rattle.plans.proofs.Planning.{refused-left, file-left}
use Rattle.plans.proofs.plan.Goals as goal

pub returns-in_err-loaded : goal.returns-in_err-loaded
unfolding commanded
returns-in_err-loaded c =
    let p = err_from_is_err_and c.from_residual.result c.from_residual.ensures.1 in
    rw (p.1, p.2) (refused-left c.args.file.now (λ N. plan_text N) c.in_err-loaded.field-0.0 c.args.text.now c.in_err-loaded.ensures)

pub write_plan-requires : goal.write_plan-requires
write_plan-requires c =
    let w = c.search_network-plan.ensures in
    (record { accepted = (is_loaded c.in_ok-loaded.loaded).accepted; few = w.few; found = w.found }, c.requires)

pub returns : goal.returns
unfolding commanded
returns c =
    let l = c.in_ok-loaded in
    file-left c.args.file.now (λ N. plan_text N) l.loaded.network.now l.ensures c.write_plan.result c.args.text.now c.write_plan.new.buf c.write_plan.ensures.written
