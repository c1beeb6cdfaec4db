use Rattle.std.specs.Prelude.{ℕ, ◌≤◌, List, ◌++◌, length}
use Rattle.std.proofs.Common.{rules, sym, ap, ◌∙◌, subst, arith}
use Rattle.model.specs.Commands.{plan_text}
use Rattle.text.proofs.Listing.{same_text, behind}
use Rattle.report.specs.Parts.{outcome_line, member_lines}
use Rattle.report.specs.Ready.{ArePlaces}
use Rattle.report.proofs.Whole.{are-places, best-size, plan-is}
use Rattle.report.proofs.write_plan.Goals as goal

pub put_found-at-requires : goal.put_found-at-requires
put_found-at-requires c =
    record { ready = (c.requires.0.accepted.read, best-size c.args.net.now c.args.plan.now c.requires.0); room = search rules }

pub put_members-requires : goal.put_members-requires
put_members-requires c =
    let N = c.args.net.now in
    let all = subst (λ (S : List ℕ). ArePlaces N S × (length S ≤ 16)) (sym c.as_slice.ensures.value) (are-places N c.args.plan.now c.requires.0, c.requires.0.few) in
    record { places = all; room = search rules }

pub returns : goal.returns
returns c =
    let N = c.args.net.now in
    let p = c.args.plan.now in
    let C : List ℕ = outcome_line p.spent p.visits (length p.members.items) p.total.0 in
    let M : List ℕ = member_lines N c.as_slice.result.now in
    let t = behind C M c.args.buf.now c.put_found-at.new.buf c.put_members.new.buf _ _ c.put_found-at.ensures.written c.put_members.ensures.written in
    let all = ap (λ (S : List ℕ). C ++ member_lines N S) c.as_slice.ensures.value in
    record {
      written = same_text (C ++ M) (plan_text N) _ _ _ (all ∙ plan-is N p c.requires.0) t;
      short = omega (arith, c.put_found-at.ensures.short, c.put_members.ensures.short);
    }
