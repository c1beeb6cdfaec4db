use Prim.Native.Nat.{◌*◌, ◌-◌}
use mathlib.Core.Path.{ap, ◌∙◌}
use native.Mathlib.Omega.{arith}
use Rattle.model.specs.Paths.{End}
use Rattle.prospects.proofs.Falling.{own-there, up-there, no-fewer, fall-size, fall-is}
use Rattle.prospects.proofs.Choice.fall.Goals as goal

pub customers-requires : goal.customers-requires
customers-requires c = up-there c.requires.0 c.place_line-line.ensures (ap (λ (e : End). e.line) (c.upstream-2.view_is ∙ c.upstream.ensures))

pub customers-requires-2 : goal.customers-requires-2
customers-requires-2 c = own-there c.requires.0 c.place_line-line.ensures (ap (λ (e : End). e.line) (c.upstream-2.view_is ∙ c.upstream.ensures))

pub overflow_sub-spared : goal.overflow_sub-spared
overflow_sub-spared c =
    omega (arith, c.customers.ensures, c.customers-2.ensures, no-fewer c.requires.0 c.place_line-line.ensures (ap (λ (e : End). e.line) (c.upstream-2.view_is ∙ c.upstream.ensures)) c.args.self.now.tables.behind.now c.requires.1)

pub mul-requires : goal.mul-requires
mul-requires c =
    let up = ap (λ (e : End). e.line) (c.upstream-2.view_is ∙ c.upstream.ensures) in
    rw (c.customers.ensures, c.customers-2.ensures) (fall-size c.requires.0 c.place_line-line.ensures up c.args.self.now.tables.behind.now c.requires.1 c.weight.ensures)

pub returns : goal.returns
returns c =
    let up = ap (λ (e : End). e.line) (c.upstream-2.view_is ∙ c.upstream.ensures) in
    fall-is c.requires.0 c.place_line-line.ensures up c.args.self.now.tables.behind.now c.requires.1 c.weight.ensures
    (c.mul.ensures ∙ (λ i. c.weight.result * (c.customers.ensures i - c.customers-2.ensures i)))
