use mathlib.Core.Path.{◌∙◌}
use native.Mathlib.Omega.{arith}
use Rattle.std.proofs.lemmas.List.{get_or_default}
use Rattle.starts.specs.Outlook.{no_prospect}
use Rattle.prospects.proofs.Undoing.{changed-less, outlook_same}
use Rattle.prospects.proofs.Prospects.leave.Goals as goal

pub loop-place-preserved : goal.loop-place-preserved
loop-place-preserved c =
    let l = c.loop-place in
    let h = c.loop-place-test.true in
    let kept = get_or_default l.self.kept _ _ no_prospect (omega (arith, c.requires.0, c.requires.1 l.place-index h, l.self.rows)) in
    (l.invariant.0, λ old x. changed-less h (record { own = c.set.ensures.place ∙ kept; others = c.set.ensures.others }) (l.invariant.1 old x))

pub returns : goal.returns
returns c =
    let v = c.loop-place.invariant in
    record {
      back = λ old x. let y = v.1 old (rw v.0 x) in outlook_same old c.loop-place.self.outlook (λ p h. y.same p h (λ i a b e. omega (arith, c.loop-place-test.false)));
      kept = v.0;
    }
