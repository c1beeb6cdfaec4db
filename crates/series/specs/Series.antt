-- The most breakers in series.
use Rattle.std.specs.Prelude.{ℕ, true}
use Rattle.model.specs.Network.{Network}
use Rattle.model.specs.Rules.{breakers_on}
use Rattle.model.specs.Outage.{path_to_hv}
use Rattle.theory.specs.Behind.{vertices}
use Rattle.sets.specs.InSeries.{most}

-- the most breakers on the path of a line or a station
abbrev pub most_in_series : Network → ℕ
most_in_series N = most (λ v. true) (λ v. breakers_on N (path_to_hv N v)) (vertices N)
