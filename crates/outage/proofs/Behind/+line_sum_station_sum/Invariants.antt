use Rattle.outage.proofs.Chains.{Part}
use Rattle.outage.proofs.Behind.+line_sum_station_sum.Given as goal

abbrev pub decreases-line_sum : goal.decreases-line_sum
decreases-line_sum l = l.levels

abbrev pub decreases-station_sum : goal.decreases-station_sum
decreases-station_sum l = l.levels

-- The customers behind the lines of the ends before are summed and noted.
abbrev pub invariant-station_sum-loop-end : goal.invariant-station_sum-loop-end
invariant-station_sum-loop-end l =
    (goal.iterator-station_sum-loop-end).can_next l.end-iterator × (goal.iterator-station_sum-loop-end).is_finite l.end-iterator × Part l.net l.came l.station l.levels l.end-iterator l.sum l.initial.self l.self
