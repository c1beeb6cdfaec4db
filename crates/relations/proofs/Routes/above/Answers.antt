use Prim.Native.Nat.{ℕ}
use mathlib.Core.Path.{◌≡◌, sym, ap, ◌∙◌, subst}
use mathlib.Core.Bool.{not}
use Rattle.model.specs.Paths.{End, same_end}
use Rattle.savings.specs.Breakers.{end_at}
use Rattle.network.specs.There.{PlaceThere}
use Rattle.tree.specs.Linked.{LineHeld}
use Rattle.tree.specs.Held.{near_in, feeder_in, HoldsFeeders}
use Rattle.paths.specs.Held.{first_in}
use Rattle.std.proofs.lemmas.Bool.{not-true, not-false}
use Rattle.relations.specs.declared.Routes.{Routes}
use Rattle.relations.proofs.Above.{line-held, above-far, above-hv, feeder-held, above-fed}
use Rattle.relations.proofs.Routed.{routed}
use Rattle.relations.proofs.Routes.above.Goals as goal

-- the line of a place's end
held : (r : Routes) (p : ℕ) → HoldsFeeders r.net.now r.tree.now → PlaceThere r.net.now p → {e : End} → e ≡ end_at r.net.now p → LineHeld e.line
held r p o i is =
    let h = routed r in
    subst LineHeld (sym (ap (λ (e : End). e.line) is)) (line-held r.net.now h.accepted r.tree.now r.firsts.now o h.firsts p (i.low, i.high))

pub is_far-requires : goal.is_far-requires
is_far-requires c = held c.args.self.now c.args.place c.requires.feeders c.requires.place c.place_end-end.ensures

pub first-requires : goal.first-requires
first-requires c = held c.args.self.now c.args.place c.requires.feeders c.requires.place (c.end.view_is ∙ c.place_end-end.ensures)

pub returns-then-is_far : goal.returns-then-is_far
returns-then-is_far c =
    let s = c.args.self.now in
    let r = routed s in
    c.first.ensures
    ∙ ap (first_in s.firsts.now) (ap (λ (e : End). e.line) (c.end.view_is ∙ c.place_end-end.ensures))
    ∙ above-far s.net.now r.accepted s.tree.now s.firsts.now c.requires.feeders r.firsts c.args.place (c.requires.place.low, c.requires.place.high)
    (not-true _ (sym (c.is_far.ensures ∙ ap (λ (e : End). not (same_end e (near_in s.tree.now e.line))) c.place_end-end.ensures) ∙ c.if-is_far.true))

pub feeder-requires : goal.feeder-requires
feeder-requires c = held c.args.self.now c.args.place c.requires.feeders c.requires.place (c.end.view_is ∙ c.place_end-end.ensures)

pub returns-in_err-feeder : goal.returns-in_err-feeder
returns-in_err-feeder c =
    let s = c.args.self.now in
    let r = routed s in
    c.from_residual.ensures
    ∙ above-hv s.net.now r.accepted s.tree.now s.firsts.now c.requires.feeders r.firsts c.args.place (c.requires.place.low, c.requires.place.high)
    (not-false _ (sym (c.is_far.ensures ∙ ap (λ (e : End). not (same_end e (near_in s.tree.now e.line))) c.place_end-end.ensures) ∙ c.if-is_far.false))
    (sym (c.feeder.ensures ∙ ap (feeder_in s.tree.now) (ap (λ (e : End). e.line) (c.end.view_is ∙ c.place_end-end.ensures))) ∙ c.in_err-feeder.was)

pub first_beyond-requires : goal.first_beyond-requires
first_beyond-requires c =
    let s = c.args.self.now in
    let r = routed s in
    feeder-held s.net.now r.accepted s.tree.now s.firsts.now c.requires.feeders r.firsts c.args.place (c.requires.place.low, c.requires.place.high)
    (not-false _ (sym (c.is_far.ensures ∙ ap (λ (e : End). not (same_end e (near_in s.tree.now e.line))) c.place_end-end.ensures) ∙ c.if-is_far.false))
    c.in_ok-feeder.feeder
    (sym (c.feeder.ensures ∙ ap (feeder_in s.tree.now) (ap (λ (e : End). e.line) (c.end.view_is ∙ c.place_end-end.ensures))) ∙ c.in_ok-feeder.was)

pub returns : goal.returns
returns c =
    let s = c.args.self.now in
    let r = routed s in
    c.first_beyond.ensures
    ∙ above-fed s.net.now r.accepted s.tree.now s.firsts.now c.requires.feeders r.firsts c.args.place (c.requires.place.low, c.requires.place.high)
    (not-false _ (sym (c.is_far.ensures ∙ ap (λ (e : End). not (same_end e (near_in s.tree.now e.line))) c.place_end-end.ensures) ∙ c.if-is_far.false))
    c.in_ok-feeder.feeder
    (sym (c.feeder.ensures ∙ ap (feeder_in s.tree.now) (ap (λ (e : End). e.line) (c.end.view_is ∙ c.place_end-end.ensures))) ∙ c.in_ok-feeder.was)
    s.places.now r.places
