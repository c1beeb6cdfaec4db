use Prim.Native.Nat.{◌+◌}
use mathlib.Core.Path.{◌≡◌}
use mathlib.Core.List.{map}
use lib.ListN.{length}
use Rattle.relations.proofs.Listing.{Rows}
use Rattle.relations.proofs.Relations.list_later.Given as goal

abbrev pub invariant-loop-q : goal.invariant-loop-q
invariant-loop-q l = (length l.self.later.items + 1 ≡ l.q) × (l.self.between ≡ l.initial.self.between) × Rows l.self.between (map (λ row. row.items) l.self.later.items) l.count l.q
