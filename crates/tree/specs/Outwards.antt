-- How a line is fed, by its path to the HV station: its near end and the line that feeds its near station.
use Rattle.std.specs.Prelude.{ℕ, Option, List, [], ◌∷◌}
use Rattle.model.specs.Network.{Network}
use Rattle.model.specs.Paths.{line, End}
use Rattle.model.specs.Outage.{path_to_hv, no_end}
use Rattle.network.specs.Found.{found}

-- the near end of a line: the first on its path to the HV station
unfoldable pub first_end : List End → End
first_end [] = no_end
first_end (e ∷ es) = e

unfoldable pub near_end : Network → ℕ → End
unfolding first_end
near_end N l = first_end (path_to_hv N (line l))

-- the line that feeds a line: that of the second end on its path
unfoldable pub second_line : List End → ℕ
second_line [] = 0
second_line (e ∷ []) = 0
second_line (e ∷ f ∷ es) = f.line

unfoldable pub feeder : Network → ℕ → ℕ
unfolding second_line
feeder N l = second_line (path_to_hv N (line l))

-- the line that feeds a line, none where its near station is an HV station
unfoldable pub fed_by : Network → ℕ → Option ℕ
unfolding feeder
fed_by N l = found (feeder N l)
