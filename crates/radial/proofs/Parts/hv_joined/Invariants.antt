use Prim.Native.Nat.{◌+◌, ◌-◌, ◌≤◌}
use mathlib.Core.Path.{◌≡◌}
use lib.ListN.{length}
use Rattle.radial.specs.Stations.{Marked, Apart}
use Rattle.radial.proofs.Parts.hv_joined.Given as goal

-- Of the stations before this one, the labels of the HV stations are marked, and no two of these are the same.
abbrev pub invariant-loop-station : goal.invariant-loop-station
invariant-loop-station l = (l.station-end ≡ length l.self.net.now.stations + 1) × (1 ≤ l.station) × (l.station ≤ l.station-end) × Marked l.self.net.now l.self.labels l.station l.marks × Apart l.self.net.now l.self.labels l.station

abbrev pub decreases-loop-station : goal.decreases-loop-station
decreases-loop-station l = l.station-end - l.station
