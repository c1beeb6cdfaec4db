use Rattle.std.proofs.Common.{refl}
use borrow.Author.Tests.{eq-eqb, ne_eqb}
use Rattle.model.specs.Ranges.{largest_of}
use Rattle.ranges.proofs.largest_of.Goals as goal

pub returns-in-Number : goal.returns-in-Number
unfolding largest_of
returns-in-Number c = rw c.in-Number.is

pub returns-in-Stations : goal.returns-in-Stations
unfolding largest_of
returns-in-Stations c = rw c.in-Stations.is

pub returns-in-Lines : goal.returns-in-Lines
unfolding largest_of
returns-in-Lines c = rw c.in-Lines.is

pub returns-then-at_hv : goal.returns-then-at_hv
unfolding largest_of
returns-then-at_hv c = rw c.in-NoneAtHv.is (rw (eq-eqb c.args.context.first 1 c.if-at_hv.true, largest_of) refl)

pub returns-else-at_hv : goal.returns-else-at_hv
unfolding largest_of
returns-else-at_hv c = rw c.in-NoneAtHv.is (rw (ne_eqb c.args.context.first 1 c.if-at_hv.false, largest_of) refl)
