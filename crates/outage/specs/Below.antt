-- What the sums over the tree below a line and below a station need, and what they leave noted of the lines.
use Rattle.std.specs.Prelude.{ℕ, ◌+◌, ◌≤◌, ◌<◌, ◌≡◌, false, ◌⊎◌, Option, None, Some, length}
use mathlib.Core.List.{◌∷◌, Memᴰ}
use Rattle.model.specs.Network.{Network}
use Rattle.model.specs.Paths.{station, line, End, same_end, is_open, station_at, closed_ends}
use Rattle.model.specs.Outage.{path_to_hv, customers_behind, no_end}
use Rattle.theory.specs.Reading.{Read}
use Rattle.theory.specs.Radial.{Rules}
use Rattle.theory.specs.Behind.{far}
use Rattle.network.specs.There.{LineThere}
use Rattle.tree.specs.Outwards.{near_end}
use Rattle.tree.specs.Held.{HoldsEnds}
use Rattle.tree.specs.Queue.{of_feeder}
use Rattle.tree.specs.declared.Tree.{Tree}
use Rattle.outage.specs.declared.Behind.{Behind}
use Rattle.outage.specs.Held.{customers_in}

-- a network that is read and keeps the rules, with the lists of its closed ends
pub record Ready (N : Network) (t : Tree) : Type 0 where
  pub read : Read N
  pub rules : Rules N
  pub ends : HoldsEnds N t

-- the end by which we come to a station: the far end of a line, none at an HV station
abbrev pub came_end : Network → Option ℕ → End
came_end N None = no_end
came_end N (Some l) = far (near_end N l)

-- a closed end at a station, of another line than that by which we came there
pub record Leaves (N : Network) (came : Option ℕ) (s : ℕ) (d : End) : Type 0 where
  pub closed : is_open N d ≡ false
  pub at : station_at N d ≡ s
  pub other : of_feeder came d ≡ false

-- A line that we come to by its near end. Its path and the levels left are together longer than any path.
pub record AtLine (N : Network) (l levels : ℕ) : Type 0 where
  pub there : LineThere N l
  pub enough : length (closed_ends N) < length (path_to_hv N (line l)) + levels

-- A station that we come to by a line: every end at it of another line is the near end of its line.
pub record AtStation (N : Network) (came : Option ℕ) (s levels : ℕ) : Type 0 where
  pub low : 1 ≤ s
  pub high : s ≤ length N.stations
  pub below : (d : End) → Leaves N came s d → path_to_hv N (line d.line) ≡ d ∷ path_to_hv N (station s)
  pub came-by : (d : End) → is_open N d ≡ false → station_at N d ≡ s → same_end d (came_end N came) ≡ of_feeder came d
  pub enough : length (closed_ends N) < length (path_to_hv N (station s)) + levels

-- From one state to another: each line whose path passes one of some ends has the customers behind it, and every other line has them
-- or has what it had.
abbrev pub Filled : Network → (End → Type 0) → Behind → Behind → Type 0
Filled N P old new = (l : ℕ) → LineThere N l
    → (customers_in new l ≡ customers_behind N (near_end N l)) ⊎ ((customers_in new l ≡ customers_in old l) × ((d : End) → Memᴰ d (path_to_hv N (line l)) → P d → ⊥))
