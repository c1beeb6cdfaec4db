-- An outlook: for a set of places, the breaker upstream of each place, its weight and the most breakers in series with it.
use Rattle.std.specs.Prelude.{ℕ, ◌≤◌, ◌≡◌, List, length, get_or}
use Rattle.model.specs.Network.{Network}
use Rattle.savings.specs.Breakers.{end_at}
use Rattle.network.specs.There.{end_in}
use Rattle.sets.specs.Sets.{upstream_at, weight_at, in_series_at}
use Rattle.starts.specs.declared.Prospect.{Prospect}
use Rattle.starts.specs.declared.Outlook.{Outlook}

-- of no place
abbrev pub no_prospect : Prospect
no_prospect = record { upstream = end_in 0 1; weight = 0; in_series = 0 }

-- what the outlook has of place p
abbrev pub prospect_of : Outlook → ℕ → Prospect
prospect_of o p = get_or o.prospects p no_prospect

-- the outlook has of place p, with the set S: the breaker upstream of it, its weight and the most breakers in series with it
pub record Values (N : Network) (S : List ℕ) (p : ℕ) (o : Outlook) : Type 0 where
  pub upstream : (prospect_of o p).upstream ≡ upstream_at N S (end_at N p)
  pub weight : (prospect_of o p).weight ≡ weight_at N S (end_at N p)
  pub in-series : (prospect_of o p).in_series ≡ in_series_at N S (end_at N p)

-- the outlook of the set S: each place from `from` on
abbrev pub HoldsOutlook : Network → List ℕ → ℕ → Outlook → Type 0
HoldsOutlook N S from o = (p : ℕ) → from ≤ p → p ≤ length N.places → Values N S p o
