-- A network that is read fits its buffer.
use Prim.Native.Nat.{ℕ, ◌≤◌}
use mathlib.Core.Path.{◌≡◌}
use native.Mathlib.Omega.{arith}
use Rattle.model.specs.Network.{Network}
use Rattle.model.specs.Paths.{End, station_at}
use Rattle.theory.specs.Reading.{Read}
use Rattle.theory.specs.Radial.{station-in}
use Rattle.network.specs.There.{Fits, LineThere, StationThere}
use Rattle.tree.specs.Linked.{LineHeld}

pub read_fits : (N : Network) → Read N → Fits N
read_fits N d = record {
  stations = omega (arith, d.station_count, d.head.stations.high);
  lines = omega (arith, d.line_count, d.head.lines.high);
  places = d.place_count;
}

module _ (N : Network) (d : Read N) where
  -- a line has a place in a tree, and the station of an end too
  pub line_held : {l : ℕ} → LineThere N l → LineHeld l
  line_held i = record { low = i.low; high = omega (arith, i.high, (read_fits N d).lines) }

  pub end-station : (e : End) → LineThere N e.line → (s : ℕ) → s ≡ station_at N e → StationThere N s
  end-station e i s p = let x = station-in N d e i.low i.high in record { low = omega (arith, x.0); high = omega (arith, x.1) }

  pub station_held : {s : ℕ} → StationThere N s → s ≤ 512
  station_held i = omega (arith, i.high, (read_fits N d).stations)
