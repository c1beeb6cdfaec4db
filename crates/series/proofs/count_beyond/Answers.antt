use Prim.Native.Nat.{◌+◌}
use mathlib.Core.Path.{sym, ◌∙◌, ap}
use native.Mathlib.Omega.{arith}
use Rattle.model.specs.Paths.{End, is_breaker}
use Rattle.tree.proofs.Fitting.{line_held}
use Rattle.series.proofs.InSeries.{count-few, counted-far, counted-line}
use Rattle.series.proofs.count_beyond.Goals as goal

pub far-requires : goal.far-requires
far-requires c = line_held c.args.net.now c.requires.0 c.requires.4

pub is_breaker-requires : goal.is_breaker-requires
is_breaker-requires c =
    let e = ap (λ (e : End). e.line) c.far.ensures in
    record { low = omega (arith, e, c.requires.4.low); high = omega (arith, e, c.requires.4.high) }

pub overflow_add-result : goal.overflow_add-result
overflow_add-result c =
    omega (arith, c.count.ensures, count-few c.args.net.now c.args.tree.now c.args.paths.now c.requires.0 c.requires.1 c.requires.2 c.requires.3 c.args.line c.requires.4)

pub returns-then-is_breaker : goal.returns-then-is_breaker
returns-then-is_breaker c =
    ap (λ n. n + 1) c.count.ensures
    ∙ counted-far c.args.net.now c.args.tree.now c.args.paths.now c.requires.0 c.requires.1 c.requires.2 c.requires.3 c.args.line c.requires.4
    (sym (c.is_breaker.ensures ∙ ap (is_breaker c.args.net.now) c.far.ensures) ∙ c.if-is_breaker.true)

pub returns-else-is_breaker : goal.returns-else-is_breaker
returns-else-is_breaker c =
    c.count-else-is_breaker.ensures
    ∙ counted-line c.args.net.now c.args.tree.now c.args.paths.now c.requires.0 c.requires.1 c.requires.2 c.requires.3 c.args.line c.requires.4
    (sym (c.is_breaker.ensures ∙ ap (is_breaker c.args.net.now) c.far.ensures) ∙ c.if-is_breaker.false)
