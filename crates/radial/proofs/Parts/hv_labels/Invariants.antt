use Prim.Native.Nat.{◌+◌, ◌-◌, ◌≤◌}
use mathlib.Core.Path.{◌≡◌}
use lib.ListN.{length}
use Rattle.radial.specs.Stations.{Marked}
use Rattle.radial.proofs.Parts.hv_labels.Given as goal

-- Of the stations before this one, the labels of the HV stations are marked.
abbrev pub invariant-loop-station : goal.invariant-loop-station
invariant-loop-station l = (l.station-end ≡ length l.self.net.now.stations + 1) × (1 ≤ l.station) × (l.station ≤ l.station-end) × Marked l.self.net.now l.self.labels l.station l.marks

abbrev pub decreases-loop-station : goal.decreases-loop-station
decreases-loop-station l = l.station-end - l.station
