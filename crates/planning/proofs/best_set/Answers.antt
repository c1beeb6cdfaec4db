use Rattle.std.proofs.Common.{sym, ◌∙◌, subst}
use Rattle.model.specs.Sets.{place_numbers}
use Rattle.theory.specs.Sizes.{read-sized}
use Rattle.bounds.specs.Table.{Small}
use Rattle.bounds.specs.Bounds.{HoldsSums}
use Rattle.planning.proofs.Based.{based}
use Rattle.planning.proofs.Searching.{savings-small}
use Rattle.planning.proofs.best_set.Goals as goal

pub fill-requires : goal.fill-requires
fill-requires c =
    let N = c.args.basis.now.network.now in
    let d = (based c.args.basis.now).accepted.read in
    let all = c.as_slice.ensures.value ∙ c.savings-savings.ensures in
    (c.as_slice.ensures.fits, subst Small (sym all) (savings-small N (read-sized N d) (place_numbers N)))

pub savings-savings-requires : goal.savings-savings-requires
savings-savings-requires c =
    let h = based c.args.basis.now in
    let p = c.prepare.ensures in
    (record { accepted = h.accepted; related = p.related; behind = h.customers }, p.start)

pub run-requires : goal.run-requires
run-requires c =
    let h = based c.args.basis.now in
    let p = c.prepare.ensures in
    let all = c.as_slice.ensures.value ∙ c.savings-savings.ensures in record {
      tables = record { accepted = h.accepted; related = p.related; behind = h.customers };
      later = p.later;
      table = subst (λ ss. HoldsSums ss c.fill.new.self) all c.fill.ensures;
      holds = p.start;
    }
