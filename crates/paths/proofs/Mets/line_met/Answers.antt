use mathlib.Core.Path.{sym, ◌∙◌, ap}
use native.Mathlib.Omega.{arith}
use Rattle.tree.specs.Held.{near_in}
use Rattle.marks.specs.Held.{mark_on}
use Rattle.paths.specs.declared.Met.{Met}
use Rattle.paths.specs.Meets.{met_next}
use Rattle.paths.proofs.Passing.{met-hv, fed-held, fed-few, met-fed}
use Rattle.paths.proofs.Mets.line_met.Goals as goal
use Rattle.paths.proofs.Mets.line_met.Goals.{in-None, in-Some}

pub of-met-requires : goal.of-met-requires
of-met-requires c = fed-held c.requires c.in-Some.feeder (sym c.in-Some.ensures)

pub far_mark-requires : goal.far_mark-requires
far_mark-requires c = fed-held c.requires c.in-Some.feeder (sym c.in-Some.ensures)

pub behind-beyond-requires : goal.behind-beyond-requires
behind-beyond-requires c = omega (arith, ap (λ (m : Met). m.count) c.of-met.ensures, fed-few c.requires c.in-Some.feeder (sym c.in-Some.ensures))

pub behind-requires : goal.behind-requires
behind-requires c = elim c.match-feeder.branch [
  | in-None w ↦ omega (arith, ap (λ (m : Met). m.count) w.beyond-is)
  | in-Some w ↦ omega (
    arith,
    ap (λ (m : Met). m.count) w.beyond-is,
    w.behind-beyond.ensures.few,
    ap (λ (m : Met). m.count) w.of-met.ensures,
    fed-few c.requires w.in-Some.feeder (sym w.in-Some.ensures),
  )
]

pub returns : goal.returns
returns c =
    let marks = c.args.marks.now in
    let near = c.on.ensures ∙ ap (mark_on marks) c.near.ensures in
    c.behind.ensures.met
    ∙ ap (λ m. met_next m c.match-feeder.beyond) near
    ∙ elim c.match-feeder.branch [
      | in-None w ↦ ap (met_next (mark_on marks (near_in c.args.tree.now c.args.line))) w.beyond-is ∙ met-hv c.requires (sym w.in-None.ensures)
      | in-Some w ↦
          ap (met_next (mark_on marks (near_in c.args.tree.now c.args.line)))
          (w.beyond-is ∙ w.behind-beyond.ensures.met ∙ (λ i. met_next (w.far_mark.ensures i) (w.of-met.ensures i)))
          ∙ met-fed c.requires w.in-Some.feeder (sym w.in-Some.ensures)
    ]
