use Rattle.std.proofs.Common.{◌≡◌, ℕ, ◌+◌, ◌<◌, length, get_or}
use Rattle.radial.proofs.numbered.Given as goal

-- The first i labels are the numbers of their stations.
abbrev pub invariant-loop-i : goal.invariant-loop-i
invariant-loop-i l = (length l.label-items ≡ 512) × ((k : ℕ) → k < l.i → get_or l.label-items k 0 ≡ k + 1)
