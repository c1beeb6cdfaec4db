-- What is held of the lines of a network: the customers behind each, and the impact of a fault on it.
use Rattle.std.specs.Prelude.{ℕ, ◌-◌, ◌≡◌, get_or}
use Rattle.model.specs.Network.{Network}
use Rattle.model.specs.Outage.{customers_behind, impact}
use Rattle.network.specs.There.{LineThere}
use Rattle.tree.specs.Outwards.{near_end}
use Rattle.outage.specs.declared.Behind.{Behind}
use Rattle.outage.specs.declared.Impacts.{Impacts}

-- the customers behind each line
abbrev pub customers_in : Behind → ℕ → ℕ
customers_in b l = get_or b.customers (l - 1) 0

abbrev pub HoldsCustomers : Network → Behind → Type 0
HoldsCustomers N b = (l : ℕ) → LineThere N l → customers_in b l ≡ customers_behind N (near_end N l)

-- the impact of a fault on each line
abbrev pub impact_in : Impacts → ℕ → ℕ
impact_in x l = get_or x.impacts (l - 1) 0

abbrev pub HoldsImpacts : Network → Impacts → Type 0
HoldsImpacts N x = (l : ℕ) → LineThere N l → impact_in x l ≡ impact N l
