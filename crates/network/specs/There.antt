-- The stations, lines, ends and places that a network has.
use Rattle.std.specs.Prelude.{ℕ, ◌-◌, ◌≤◌, length}
use Rattle.model.specs.Lists.{numbered}
use Rattle.model.specs.Network.{Network, Line, Place, no_line}
use Rattle.model.specs.Paths.{End}

-- no more of each than there is room for
pub record Fits (N : Network) : Type 0 where
  pub stations : length N.stations ≤ 512
  pub lines : length N.lines ≤ 768
  pub places : length N.places ≤ 64

pub record StationThere (N : Network) (s : ℕ) : Type 0 where
  pub low : 1 ≤ s
  pub high : s ≤ length N.stations

pub record LineThere (N : Network) (l : ℕ) : Type 0 where
  pub low : 1 ≤ l
  pub high : l ≤ length N.lines

pub record PlaceThere (N : Network) (p : ℕ) : Type 0 where
  pub low : 1 ≤ p
  pub high : p ≤ length N.places

-- a line, an end, and a place
abbrev pub line_in : Network → ℕ → Line
line_in N l = numbered no_line N.lines l

abbrev pub end_in : ℕ → ℕ → End
end_in l side = record { line = l; side = side }

abbrev pub place_on : (line side cost hours : ℕ) → Place
place_on line side cost hours = record { line = line; side = side; cost = cost; hours = hours }

-- the other end of a line, and the end that a place is on
abbrev pub other_end : End → End
other_end e = record { line = e.line; side = 3 - e.side }

abbrev pub place_end : Place → End
place_end p = record { line = p.line; side = p.side }
