use Prim.Native.Nat.{ℕ, ◌+◌, ◌-◌, ◌≤◌, ◌<◌}
use mathlib.Core.Path.{◌≡◌}
use lib.ListN.{length}
use Rattle.model.specs.Rules.{breakers_on}
use Rattle.paths.specs.Meets.{far_route}
use Rattle.series.specs.Series.{most_in_series}
use Rattle.series.proofs.most_in_series.Given as goal

abbrev pub invariant-loop-line : goal.invariant-loop-line
invariant-loop-line v = (v.line-end ≡ length v.net.lines + 1) × (1 ≤ v.line) × (v.line ≤ v.line-end) × (v.most ≤ most_in_series v.net) × ((l : ℕ) → 1 ≤ l → l < v.line → breakers_on v.net (far_route v.net l) ≤ v.most)

abbrev pub decreases-loop-line : goal.decreases-loop-line
decreases-loop-line l = l.line-end - l.line
