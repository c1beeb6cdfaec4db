use Rattle.std.specs.Prelude.{OnOk}
use Rattle.std.proofs.Common.{◌≡◌, ◌∙◌, subst}
use Rattle.std.proofs.lemmas.Result.{err_from_is_err_and}
use Rattle.model.specs.Answer.{given}
use Rattle.model.specs.Rules.{radial}
use Rattle.loading.specs.Loading.{before, IsPrepared}
use Rattle.loading.proofs.Loads.{read-refused, read-holds, rules-next, all-loaded}
use Rattle.loading.proofs.Room.load.Goals as goal

pub returns-in_err-read : goal.returns-in_err-read
returns-in_err-read c =
    let p = err_from_is_err_and c.from_residual.result c.from_residual.ensures.1 in
    rw (p.1, p.2) (read-refused c.args.file.now c.in_err-read.ensures)

pub prepare-rules-requires : goal.prepare-rules-requires
prepare-rules-requires c = read-holds c.args.file.now _ c.in_ok-read.ensures

pub returns-in_err-rules : goal.returns-in_err-rules
returns-in_err-rules c =
    let p = err_from_is_err_and c.from_residual-in_err-rules.result c.from_residual-in_err-rules.ensures.1 in
    let s = c.prepare-rules.new.self in
    let answer = subst (λ r. before r (given s.network) ≡ radial c.read.new.net) c.in_err-rules.was c.prepare-rules.ensures.answer in
    rw (p.1, p.2) (answer ∙ rules-next c.args.file.now _ c.in_ok-read.ensures)

pub invariant_of-result : goal.invariant_of-result
invariant_of-result c =
    let s = c.prepare-rules.new.self in
    let answer = subst (λ r. before r (given s.network) ≡ radial c.read.new.net) c.in_ok-rules.was c.prepare-rules.ensures.answer ∙ rules-next c.args.file.now _ c.in_ok-read.ensures in
    let prepared = subst (λ r. OnOk r (IsPrepared s.network s.tree s.paths)) c.in_ok-rules.was c.prepare-rules.ensures.prepared in
    record { loaded = ∣ all-loaded c.args.file.now _ _ _ answer prepared ∣₁ }

pub returns : goal.returns
returns c =
    let s = c.prepare-rules.new.self in
    subst (λ r. before r (given s.network) ≡ radial c.read.new.net) c.in_ok-rules.was c.prepare-rules.ensures.answer ∙ rules-next c.args.file.now _ c.in_ok-read.ensures
