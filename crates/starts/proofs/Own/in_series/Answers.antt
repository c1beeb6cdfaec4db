use mathlib.Core.Path.{refl, sym, ap, ◌∙◌, subst}
use Prim.Native.Nat.{◌+◌, ◌≤◌}
use native.Mathlib.Omega.{arith}
use Rattle.std.specs.Prelude.{IfSome}
use Rattle.sets.specs.Stops.{first_place}
use Rattle.sets.specs.Sets.{route}
use Rattle.sets.specs.Apart.{place_ends}
use Rattle.marks.specs.Held.{place_on}
use Rattle.network.specs.There.{LineThere}
use Rattle.relations.proofs.Routed.{routed}
use Rattle.starts.specs.Own.{far_place}
use Rattle.starts.specs.Held.{raised}
use Rattle.starts.proofs.OnEnds.{on-most}
use Rattle.starts.proofs.FarStations.{far-few}
use Rattle.starts.proofs.Raising.{Raised, few-some, raised-none, raised-more, raised_all}
use Rattle.starts.proofs.Own.in_series.Goals as goal

pub loop-line-init : goal.loop-line-init
loop-line-init c = rw c.new-own.ensures (omega arith, omega arith, omega arith, raised-none c.args.routes.now.net.now _ 65)

pub raise-requires : goal.raise-requires
raise-requires c =
    let N = c.args.routes.now.net.now in
    let h = routed c.args.routes.now in
    let l = c.loop-line.line in
    let u : LineThere N l = record { low = omega arith; high = omega arith } in
    subst (λ o. IfSome o (λ p. p ≤ 64)) (sym (c.first.ensures ∙ h.firsts l u))
    (few-some (place_on N (first_place (place_ends N) (route N l))) (omega (arith, on-most N (first_place (place_ends N) (route N l)), h.accepted.read.place_count)))

pub count_beyond-count-requires : goal.count_beyond-count-requires
count_beyond-count-requires c =
    let h = routed c.args.routes.now in
    (h.accepted.read, h.accepted.rules, h.nears, c.requires.counts, record { low = omega arith; high = omega arith })

pub raise-requires-in-loop-line : goal.raise-requires-in-loop-line
raise-requires-in-loop-line c =
    let N = c.args.routes.now.net.now in
    subst (λ o. IfSome o (λ p. p ≤ 64)) (sym c.far_place-beyond.ensures) (few-some (far_place N c.loop-line.line) (far-few N (routed c.args.routes.now).accepted c.loop-line.line))

pub loop-line-preserved : goal.loop-line-preserved
loop-line-preserved c =
    let N = c.args.routes.now.net.now in
    let h = routed c.args.routes.now in
    let l = c.loop-line.line in
    let i = c.loop-line.invariant in
    let u : LineThere N l = record { low = omega arith; high = omega arith } in
    let first = place_on N (first_place (place_ends N) (route N l)) in
    let next = c.raise.new.self.numbers in
    let end = c.line_count-line-end.result + 1 in (
      i.0,
      omega arith,
      omega arith,
      subst (λ xs. Raised N end xs (l + 1)) (sym (c.raise-in-loop-line.ensures ∙ ap (λ o. raised next o c.count_beyond-count.result) c.far_place-beyond.ensures))
          (raised-more N end c.loop-line.own.numbers next l first (far_place N l) c.count.result c.count_beyond-count.result
          (omega arith)
          (omega (arith, c.loop-line.own.long, on-most N (first_place (place_ends N) (route N l)), h.accepted.read.place_count))
          (omega (arith, c.raise.new.self.long, far-few N h.accepted l))
          refl (c.count.ensures ∙ c.requires.counts l u) refl c.count_beyond-count.ensures
          (c.raise.ensures ∙ ap (λ o. raised c.loop-line.own.numbers o c.count.result) (c.first.ensures ∙ h.firsts l u))
          i.3),
    )

pub returns : goal.returns
returns c =
    let h = c.loop-line in
    raised_all c.args.routes.now.net.now (routed c.args.routes.now).accepted _ h.invariant.0 h.own.numbers h.line (omega arith) h.invariant.3
