use native.Mathlib.Omega.{arith}
use Rattle.model.specs.Rules.{breakers_on}
use Rattle.paths.specs.Meets.{far_route}
use Rattle.series.proofs.InSeries.{far_within, none_above, upto-more}
use Rattle.series.proofs.most_in_series.Goals as goal

pub loop-line-init : goal.loop-line-init
loop-line-init c = (omega arith, omega arith, omega arith, omega arith, λ l i h. absurd (omega arith))

pub count_beyond-requires : goal.count_beyond-requires
count_beyond-requires c =
    let h = c.loop-line in
    (c.requires.0, c.requires.1, c.requires.2, c.requires.3, record { low = h.invariant.1; high = omega arith })

pub loop-line-preserved : goal.loop-line-preserved
loop-line-preserved c =
    let h = c.loop-line in
    let N = c.args.net.now in
    let n = c.count_beyond.ensures in (
      omega arith,
      omega arith,
      omega arith,
      omega (arith, c.max-most.ensures, n, h.invariant.3, far_within N c.requires.0 c.requires.1 h.line h.invariant.1 (omega arith)),
      upto-more (λ l. breakers_on N (far_route N l)) h.line h.most c.max-most.result h.invariant.4 (omega (arith, c.max-most.ensures)) (omega (arith, c.max-most.ensures, n)),
    )

pub returns : goal.returns
returns c =
    let h = c.loop-line in
    omega (arith, h.invariant.3, none_above c.args.net.now c.requires.0 c.requires.1 h.most (λ l i j. h.invariant.4 l i (omega arith)))
