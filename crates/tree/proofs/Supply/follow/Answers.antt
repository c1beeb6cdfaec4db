use Rattle.std.specs.Prelude.{◌≡◌, get_or}
use Rattle.std.proofs.Common.{sym, ◌∙◌, ap}
use mathlib.Core.Path.{subst}
use Rattle.theory.specs.Behind.{far}
use Rattle.tree.specs.Held.{HasList, listed_ends}
use Rattle.tree.proofs.Fitting.{line_held}
use Rattle.tree.proofs.Queueing.{line-there, far-line, far-skip, far-station, far-room, far-add}
use Rattle.tree.proofs.Supply.follow.Goals as goal

pub near-requires : goal.near-requires
near-requires c =
    let d = c.requires.read in
    let q = c.requires.queue in
    line_held _ d.0 (line-there _ d.0 d.1 c.args.i c.args.self.now q.0 q.1 _ (ap (λ xs. get_or xs c.args.i 0) c.deref.ensures.0))

pub is_open-requires : goal.is_open-requires
is_open-requires c =
    let d = c.requires.read in
    let q = c.requires.queue in
    far-line _ d.0 d.1 c.args.i c.args.self.now q.0 q.1 _ (ap (λ xs. get_or xs c.args.i 0) c.deref.ensures.0) _ (c.other-far.ensures ∙ ap far c.near.ensures)

pub end_station-requires : goal.end_station-requires
end_station-requires c =
    let d = c.requires.read in
    let q = c.requires.queue in
    far-line _ d.0 d.1 c.args.i c.args.self.now q.0 q.1 _ (ap (λ xs. get_or xs c.args.i 0) c.deref.ensures.0) _ (c.other-far.ensures ∙ ap far c.near.ensures)

pub closed_ends-requires : goal.closed_ends-requires
closed_ends-requires c =
    let d = c.requires.read in
    let q = c.requires.queue in
    let i = far-station _ d.0 d.1 c.args.i c.args.self.now q.0 q.1 _ (ap (λ xs. get_or xs c.args.i 0) c.deref.ensures.0) _ (c.other-far.ensures ∙ ap far c.near.ensures) (sym c.is_open.ensures ∙ c.if-not-is_open.true) in
    subst (HasList c.args.lists.now) (sym c.end_station.ensures) (d.2.has _ (record { low = i.0; high = i.1 }))

pub append-requires : goal.append-requires
append-requires c =
    let d = c.requires.read in
    let q = c.requires.queue in
    let a = ap (λ xs. get_or xs c.args.i 0) c.deref.ensures.0 in
    let e = c.other-far.ensures ∙ ap far c.near.ensures in
    let o = sym c.is_open.ensures ∙ c.if-not-is_open.true in
    let i = far-station _ d.0 d.1 c.args.i c.args.self.now q.0 q.1 _ a _ e o in
    far-room _ d.0 d.1 c.args.i c.args.self.now q.0 q.1 _ a _ e o _ (subst (λ s. c.closed_ends.result ≡ listed_ends c.args.lists.now s) c.end_station.ensures c.closed_ends.ensures ∙ d.2.ends _ (record { low = i.0; high = i.1 }))

pub returns-then-not-is_open : goal.returns-then-not-is_open
returns-then-not-is_open c =
    let d = c.requires.read in
    let q = c.requires.queue in
    let a = ap (λ xs. get_or xs c.args.i 0) c.deref.ensures.0 in
    let e = c.other-far.ensures ∙ ap far c.near.ensures in
    let o = sym c.is_open.ensures ∙ c.if-not-is_open.true in
    let i = far-station _ d.0 d.1 c.args.i c.args.self.now q.0 q.1 _ a _ e o in
    far-add _ d.0 d.1 c.args.i c.args.self.now q.0 q.1 _ a _ e o _ (subst (λ s. c.closed_ends.result ≡ listed_ends c.args.lists.now s) c.end_station.ensures c.closed_ends.ensures ∙ d.2.ends _ (record { low = i.0; high = i.1 }))
    c.append.new.self c.append.ensures

pub returns-else-not-is_open : goal.returns-else-not-is_open
returns-else-not-is_open c =
    let d = c.requires.read in
    let q = c.requires.queue in
    let a = ap (λ xs. get_or xs c.args.i 0) c.deref.ensures.0 in
    (far-skip _ d.0 d.1 c.args.i c.args.self.now q.0 q.1 _ a _ (c.other-far.ensures ∙ ap far c.near.ensures) (sym c.is_open.ensures ∙ c.if-not-is_open.false), q.1)
