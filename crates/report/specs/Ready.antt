-- What a report needs of what it prints.
use Rattle.std.specs.Prelude.{ℕ, ◌≤◌, ◌<◌, ◌≡◌, List, get_or, length}
use Rattle.model.specs.Network.{Network}
use Rattle.model.specs.Outage.{total}
use Rattle.model.specs.Walk.{search}
use Rattle.theory.specs.Best.{Accepted}
use Rattle.outage.specs.Held.{HoldsImpacts}
use Rattle.outage.specs.declared.Impacts.{Impacts}
use Rattle.network.specs.There.{PlaceThere}
use Rattle.amounts.specs.declared.Total.{Total}
use Rattle.planning.specs.declared.Plan.{Plan}
use Rattle.planning.specs.Planned.{plan_found}

-- the numbers of a list are places of a network
abbrev pub ArePlaces : Network → List ℕ → Type 0
ArePlaces N members = (i : ℕ) → i < length members → PlaceThere N (get_or members i 0)

-- the search of an accepted network
pub record Planned (N : Network) (plan : Plan) : Type 0 where
  pub accepted : Accepted N
  pub few : length plan.members.items ≤ 16
  pub found : plan_found plan ≡ search N

-- the impacts, the total and the search of an accepted network
pub record Answered (N : Network) (impacts : Impacts) (amount : Total) (plan : Plan) : Type 0 where
  pub planned : Planned N plan
  pub holds : HoldsImpacts N impacts
  pub is_total : amount.0 ≡ total N
