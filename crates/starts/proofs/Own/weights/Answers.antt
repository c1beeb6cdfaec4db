use Prim.Native.Nat.{◌+◌}
use mathlib.Core.Path.{sym, ap, ◌∙◌}
use native.Mathlib.Omega.{arith}
use Rattle.relations.proofs.Routed.{routed}
use Rattle.starts.specs.Own.{stop_of}
use Rattle.starts.specs.Held.{own_in}
use Rattle.starts.proofs.Stopping.{stop-few}
use Rattle.starts.proofs.Gathering.{weighed-none, weighed-past, weighed_more, weighed-fits, weighed-whole}
use Rattle.starts.proofs.Own.weights.Goals as goal
use Rattle.starts.proofs.Own.weights.Goals.{in-Some, in_default}
use Rattle.network.specs.Found.{none-found, some-found}

pub loop-line-init : goal.loop-line-init
loop-line-init c = rw c.new-own.ensures (omega arith, omega arith, omega arith, weighed-none c.args.routes.now.net.now _ 65)

pub add-requires : goal.add-requires
add-requires c =
    let N = c.args.routes.now.net.now in
    let h = c.loop-line in
    let k = some-found (stop_of N h.line) c.in-Some.place (sym c.in-Some.ensures) in (
      omega (arith, k, stop-few N (routed c.args.routes.now).accepted h.line (omega arith) (omega arith)),
      omega (arith, c.weight.ensures, weighed-fits N _ h.own.numbers h.line (omega arith) h.invariant.3 (routed c.args.routes.now).accepted h.invariant.0 c.in-Some.place k.0 (omega (arith, k))),
    )

pub loop-line-preserved : goal.loop-line-preserved
loop-line-preserved c =
    let N = c.args.routes.now.net.now in
    let h = c.loop-line in
    elim c.match-stop_of.branch [
      | in-Some w ↦
          let k = some-found (stop_of N h.line) w.in-Some.place (sym w.in-Some.ensures) in
          rw (w.own-is, w.add.ensures) (
            h.invariant.0,
            omega arith,
            omega arith,
            weighed_more N _ h.own.numbers h.line (omega arith) h.invariant.3 w.in-Some.place _ k.0 (ap (λ x. own_in h.own w.in-Some.place + x) w.weight.ensures) (omega (arith, h.own.long, k, stop-few N (routed c.args.routes.now).accepted h.line (omega arith) (omega arith))),
          )
      | in_default w ↦
          rw w.own-is (
            h.invariant.0,
            omega arith,
            omega arith,
            weighed-past N _ h.own.numbers h.line (omega arith) h.invariant.3 (none-found (stop_of N h.line) (sym c.stop_of.ensures ∙ w.in_default.is)),
          )
    ]

pub returns : goal.returns
returns c =
    let h = c.loop-line in
    weighed-whole c.args.routes.now.net.now (routed c.args.routes.now).accepted _ h.invariant.0 h.own.numbers h.line (omega arith) h.invariant.3
