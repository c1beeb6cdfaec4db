use Rattle.std.proofs.Common.{sym, ap, ◌∙◌, subst, ℕ, List}
use mathlib.Core.List.{Sublistᴰ}
use Rattle.model.specs.Sets.{place_numbers, set_total}
use Rattle.planning.proofs.Based.{based}
use Rattle.planning.proofs.Planning.{best-places, plan-is}
use Rattle.planning.proofs.best_plan.Goals as goal

pub total_with-total-requires : goal.total_with-total-requires
total_with-total-requires c =
    let N = c.args.basis.now.network.now in
    let f = c.best_set in
    let places = best-places N (based c.args.basis.now).accepted f.new.course.progress f.ensures.found in
    subst (λ (S : List ℕ). Sublistᴰ S (place_numbers N)) (sym c.as_slice.ensures.value) places

pub returns : goal.returns
returns c =
    let N = c.args.basis.now.network.now in
    let f = c.best_set in
    let total = c.total_with-total.ensures ∙ ap (λ (S : List ℕ). set_total N S) c.as_slice.ensures.value in
    record { found = plan-is N (based c.args.basis.now).accepted f.new.course.progress f.ensures.found total; few = f.ensures.few }
