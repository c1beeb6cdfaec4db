use Rattle.std.proofs.Common.{refl}
use Rattle.ranges.proofs.Tests.{from-least, below-least}
use Rattle.ranges.proofs.in_range.Goals as goal

pub returns-then-range-value : goal.returns-then-range-value
returns-then-range-value c =
    let a = c.args in
    from-least a.context.stations a.context.lines a.context.first a.value a.range _ _ refl c.largest_of-most.ensures c.if-range-value.true

pub returns-else-range-value : goal.returns-else-range-value
returns-else-range-value c =
    let a = c.args in
    below-least a.context.stations a.context.lines a.context.first a.value a.range _ refl c.if-range-value.false
