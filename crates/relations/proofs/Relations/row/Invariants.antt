use Prim.Native.Nat.{◌+◌, ◌≤◌, ◌<◌}
use mathlib.Core.Path.{◌≡◌}
use Rattle.relations.specs.Lists.{Listed}
use Rattle.relations.proofs.Relations.row.Given as goal

abbrev pub invariant-loop-p : goal.invariant-loop-p
invariant-loop-p l = (l.p-end ≡ l.count + 1) × (l.q < l.p) × (l.p ≤ l.p-end) × Listed l.self.between l.q l.p l.row.items
