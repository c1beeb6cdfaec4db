use Rattle.std.proofs.Common.{◌≡◌, length}
use Rattle.radial.specs.Stations.{Renamed}
use Rattle.radial.proofs.rename.Given as goal

-- Before this label x is y, and from it on all is as it was.
abbrev pub invariant-loop-label : goal.invariant-loop-label
invariant-loop-label l = (length l.labels ≡ 512) × Renamed l.x l.y l.label-index l.initial.labels l.labels
