use Rattle.std.specs.Prelude.{None, replicate}
use Prim.Native.Nat.{◌+◌, ◌-◌}
use mathlib.Core.Path.{refl, sym, ap, ◌∙◌, subst}
use native.Mathlib.Omega.{arith}
use lib.ListN.{length-set}
use Rattle.model.specs.Paths.{End}
use Rattle.theory.specs.Gathering.{always}
use Rattle.tree.specs.Linked.{end_code}
use Rattle.marks.proofs.Marking.{place-fits, MarkedFrom, marks-none, marks-next, marks-all}
use Rattle.marks.proofs.Marks.mark_places.Goals as goal

pub loop-place-init : goal.loop-place-init
loop-place-init c =
    let N = c.args.net.now in
    (refl, omega arith, subst (MarkedFrom N (replicate 1537 None)) (sym (ap (λ n. n + 1) c.place_count-place.ensures.count)) (marks-none N c.requires (replicate 1537 None) (always None 1537)))

pub code-requires : goal.code-requires
code-requires c =
    let f = place-fits c.args.net.now c.requires (c.loop-place.place - 1) (omega arith) (omega arith) in
    let l = ap (λ (e : End). e.line) c.place_end.ensures in
    record { low = omega (arith, l, f.line); high = omega (arith, l, f.line, c.requires.line_count, c.requires.head.lines) }

pub loop-place-preserved : goal.loop-place-preserved
loop-place-preserved c =
    let h = c.loop-place in
    let N = c.args.net.now in (
      length-set h.self.marks c.code.result _ ∙ h.invariant.0,
      omega arith,
      marks-next N c.requires h.self.marks (h.place - 1) c.code.result (omega arith) (omega arith) (c.code.ensures.value ∙ ap (λ e. end_code e) c.place_end.ensures) (omega arith)
          (subst (MarkedFrom N h.self.marks) {x = h.place} {y = h.place - 1 + 1} (omega arith) h.invariant.2),
    )

pub returns : goal.returns
returns c = marks-all c.args.net.now c.requires c.loop-place.self (subst (MarkedFrom c.args.net.now c.loop-place.self.marks) {x = c.loop-place.place} {y = 1} (omega arith) c.loop-place.invariant.2)
