use native.Mathlib.Omega.{arith}
use Rattle.theory.specs.Radial.{station-in}
use Rattle.end_rules.proofs.station_of.Goals as goal

pub returns : goal.returns
returns c =
    let i = station-in c.args.net.now c.requires.read c.args.end c.requires.line_there.low c.requires.line_there.high in
    record { value = c.end_station.ensures; station_there = record { low = omega (arith, i.0, c.end_station.ensures); high = omega (arith, i.1, c.end_station.ensures) } }
