-- What a search is based on, and what it found.
use Rattle.std.specs.Prelude.{ℕ, ◌≡◌}
use Rattle.model.specs.Network.{Network}
use Rattle.model.specs.Walk.{Found}
use Rattle.theory.specs.Best.{Accepted}
use Rattle.tree.specs.Held.{HoldsOutwards}
use Rattle.tree.specs.declared.Tree.{Tree}
use Rattle.paths.specs.Held.{HoldsPaths}
use Rattle.paths.specs.declared.Paths.{Paths}
use Rattle.outage.specs.Held.{HoldsCustomers}
use Rattle.outage.specs.declared.Behind.{Behind}
use Rattle.planning.specs.declared.Plan.{Plan}

-- an accepted network with its lines from the HV stations outwards, their paths and the customers behind them
pub record HoldsBasis (N : Network) (t : Tree) (p : Paths) (b : Behind) : Type 0 where
  pub accepted : Accepted N
  pub outwards : HoldsOutwards N t
  pub paths : HoldsPaths N p
  pub customers : HoldsCustomers N b

abbrev pub plan_found : Plan → Found
plan_found p = record { members = p.members.items; best = p.total.0; visits = p.visits; spent = p.spent }

-- what was found, with its total as a number
pub found-is : (p : Plan) {total : ℕ} → total ≡ p.total.0 → ◌≡◌ {A = Found} (record { members = p.members.items; best = total; visits = p.visits; spent = p.spent }) (plan_found p)
found-is p t = λ i. record { members = p.members.items; best = t i; visits = p.visits; spent = p.spent }
