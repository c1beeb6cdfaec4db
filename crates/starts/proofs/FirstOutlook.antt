-- The outlook of the empty set, place after place.
use Prim.Native.Nat.{ℕ, ◌≤◌, ◌<◌}
use mathlib.Core.Path.{◌≡◌}
use mathlib.Core.List.{[]}
use Rattle.model.specs.Network.{Network}
use Rattle.savings.specs.Breakers.{end_at}
use Rattle.sets.specs.Sets.{upstream_at, weight_at, in_series_at}
use Rattle.starts.specs.declared.Prospect.{Prospect}
use Rattle.starts.specs.declared.Outlook.{Outlook}
use Rattle.starts.specs.Outlook.{prospect_of}

-- what is said of the prospect of place p before any place is chosen
pub record Prospected (N : Network) (p : ℕ) (v : Prospect) : Type 0 where
  pub upstream : v.upstream ≡ upstream_at N [] (end_at N p)
  pub weight : v.weight ≡ weight_at N [] (end_at N p)
  pub in-series : v.in_series ≡ in_series_at N [] (end_at N p)

-- the places below k have their prospects
abbrev pub Set : Network → Outlook → ℕ → Type 0
Set N o k = (p : ℕ) → 1 ≤ p → p < k → Prospected N p (prospect_of o p)
