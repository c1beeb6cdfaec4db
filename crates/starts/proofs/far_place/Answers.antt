use mathlib.Core.Path.{sym, ap, ◌∙◌}
use Rattle.model.specs.Paths.{is_open}
use Rattle.relations.proofs.Routed.{routed}
use Rattle.starts.proofs.FarStations.{place-open, place-closed}
use Rattle.starts.proofs.far_place.Goals as goal

pub returns-then-is_open : goal.returns-then-is_open
returns-then-is_open c =
    let r = c.args.routes.now in
    let h = routed r in
    place-open r.net.now h.accepted c.args.line r.tree.now h.nears c.requires (sym (c.is_open.ensures ∙ ap (is_open r.net.now) c.far.ensures) ∙ c.if-is_open.true)

pub returns : goal.returns
returns c =
    let r = c.args.routes.now in
    let h = routed r in
    c.first_beyond.ensures
    ∙ place-closed r.net.now h.accepted c.args.line r.tree.now h.nears c.requires r.places.now r.firsts.now h.places h.firsts (sym (c.is_open.ensures ∙ ap (is_open r.net.now) c.far.ensures) ∙ c.if-is_open.false)
