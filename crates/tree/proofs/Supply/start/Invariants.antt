use Rattle.std.specs.Prelude.{◌+◌, ◌≤◌, ◌≡◌, length}
use Rattle.tree.specs.Queue.{Queue, HVBelow}
use Rattle.tree.proofs.Supply.start.Given as goal

-- The lines that leave the HV stations before this one are noted.
abbrev pub invariant-loop-station : goal.invariant-loop-station
invariant-loop-station l = (l.station-end ≡ length l.net.stations + 1) × (1 ≤ l.station) × (l.station ≤ l.station-end) × Queue l.net (HVBelow l.net l.station) l.self
