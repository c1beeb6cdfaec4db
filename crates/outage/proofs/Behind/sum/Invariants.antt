use Prim.Native.Nat.{◌+◌, ◌≤◌}
use mathlib.Core.Path.{◌≡◌}
use lib.ListN.{length}
use Rattle.outage.specs.Below.{Filled}
use Rattle.outage.proofs.HVStations.{AtHV}
use Rattle.outage.proofs.Behind.sum.Given as goal

-- The customers behind the lines whose paths come from the HV stations before this one are noted.
abbrev pub invariant-loop-station : goal.invariant-loop-station
invariant-loop-station l = (l.station-end ≡ length l.net.stations + 1) × (1 ≤ l.station) × (l.station ≤ l.station-end) × Filled l.net (AtHV l.net l.station) l.initial.self l.self
