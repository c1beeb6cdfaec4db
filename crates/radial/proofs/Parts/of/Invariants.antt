use Prim.Native.Nat.{◌+◌, ◌-◌}
use mathlib.Core.Path.{◌≡◌}
use lib.ListN.{length}
use Rattle.radial.specs.Run.{Running}
use Rattle.radial.proofs.Parts.of.Given as goal

-- The labels tell what the lines before this one connect.
abbrev pub invariant-loop-line : goal.invariant-loop-line
invariant-loop-line l = (l.line-end ≡ length l.net.lines + 1) × Running l.net l.line l.labels

abbrev pub decreases-loop-line : goal.decreases-loop-line
decreases-loop-line l = l.line-end - l.line
