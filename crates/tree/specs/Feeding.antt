-- How each line is fed. Its path to the HV station begins with its near end and goes on with the far end of the line that feeds
-- it, if its near end is not at an HV station itself.
use Rattle.std.specs.Prelude.{ℕ, ◌≤◌, ◌≡◌, true, false, [], ◌∷◌, length}
use Rattle.model.specs.Network.{Network}
use Rattle.model.specs.Paths.{station, line, End, is_open, is_breaker, station_at}
use Rattle.model.specs.Outage.{path_to_hv}
use Rattle.theory.specs.Behind.{far}
use Rattle.tree.specs.Outwards.{near_end, feeder}

-- an end by which a line's path begins: its near end
pub record Near (N : Network) (l : ℕ) (e : End) : Type 0 where
  pub own : e.line ≡ l
  pub closed : is_open N e ≡ false
  pub path : path_to_hv N (line l) ≡ e ∷ path_to_hv N (station (station_at N e))

-- a station's path begins with the far end of the line that feeds it
pub record FarEnd (N : Network) (s : ℕ) (e : End) : Type 0 where
  pub closed : is_open N e ≡ false
  pub own : station_at N e ≡ s
  pub path : path_to_hv N (station s) ≡ e ∷ path_to_hv N (line e.line)
  pub is-far : e ≡ far (near_end N e.line)

pub data Fed (N : Network) (l : ℕ) : Type 0 where
  by_hv : path_to_hv N (line l) ≡ near_end N l ∷ [] → is_breaker N (near_end N l) ≡ true → Fed N l
  by_line : 1 ≤ feeder N l → feeder N l ≤ length N.lines → path_to_hv N (line l) ≡ near_end N l ∷ far (near_end N (feeder N l)) ∷ path_to_hv N (line (feeder N l))
      → Fed N l

pub record Feeds (N : Network) : Type 0 where
  -- the near end of a line is end 1 or 2 of it
  pub ends : (l : ℕ) → 1 ≤ l → l ≤ length N.lines → ((near_end N l).line ≡ l) × (1 ≤ (near_end N l).side) × ((near_end N l).side ≤ 2)
  pub fed : (l : ℕ) → 1 ≤ l → l ≤ length N.lines → Fed N l
