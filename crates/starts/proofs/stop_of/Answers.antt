use mathlib.Core.Path.{sym, ap, ◌∙◌, subst}
use Rattle.model.specs.Paths.{same_end}
use Rattle.tree.specs.Linked.{LineHeld}
use Rattle.paths.specs.Held.{trip_in}
use Rattle.relations.proofs.Routed.{routed}
use Rattle.starts.proofs.UnderPlaces.{line_held}
use Rattle.starts.proofs.FarStations.{own-held}
use Rattle.starts.proofs.Stopping.{stop-without, place-there, same-trip, other-trip}
use Rattle.starts.proofs.stop_of.Goals as goal

pub returns-in_err-place : goal.returns-in_err-place
returns-in_err-place c =
    let r = c.args.routes.now in
    let h = routed r in
    let (n, u) = c.requires in
    c.from_residual.ensures ∙ stop-without r.net.now h.accepted c.args.paths.now r.firsts.now n h.firsts c.args.line u (sym c.first.ensures ∙ c.in_err-place.was)

pub place_line-requires : goal.place_line-requires
place_line-requires c =
    let r = c.args.routes.now in
    let h = routed r in
    let (n, u) = c.requires in
    place-there r.net.now h.accepted c.args.paths.now r.firsts.now n h.firsts c.args.line u c.in_ok-place.place (sym c.first.ensures ∙ c.in_ok-place.was)

pub trip_together-requires : goal.trip_together-requires
trip_together-requires c =
    let r = c.args.routes.now in
    let h = routed r in
    let (n, u) = c.requires in (
      own-held r.net.now h.accepted c.args.line r.tree.now h.nears u,
      subst LineHeld (sym c.place_line.ensures)
          (line_held r.net.now h.accepted c.in_ok-place.place (place-there r.net.now h.accepted c.args.paths.now r.firsts.now n h.firsts c.args.line u c.in_ok-place.place (sym c.first.ensures ∙ c.in_ok-place.was))),
    )

pub returns-else-trip_together : goal.returns-else-trip_together
returns-else-trip_together c =
    let r = c.args.routes.now in
    let h = routed r in
    let (n, u) = c.requires in
    other-trip r.net.now h.accepted c.args.paths.now r.firsts.now n h.firsts c.args.line u c.in_ok-place.place (sym c.first.ensures ∙ c.in_ok-place.was)
    (sym (c.trip_together.ensures ∙ ap (λ l. same_end (trip_in c.args.paths.now c.args.line) (trip_in c.args.paths.now l)) c.place_line.ensures) ∙ c.if-trip_together.false)

pub returns-then-trip_together : goal.returns-then-trip_together
returns-then-trip_together c =
    let r = c.args.routes.now in
    let h = routed r in
    let (n, u) = c.requires in
    same-trip r.net.now h.accepted c.args.paths.now r.firsts.now n h.firsts c.args.line u c.in_ok-place.place (sym c.first.ensures ∙ c.in_ok-place.was)
    (sym (c.trip_together.ensures ∙ ap (λ l. same_end (trip_in c.args.paths.now c.args.line) (trip_in c.args.paths.now l)) c.place_line.ensures) ∙ c.if-trip_together.true)
