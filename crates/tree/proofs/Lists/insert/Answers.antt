use Rattle.std.proofs.Common.{sym, ◌∙◌, arith}
use Rattle.tree.proofs.Fitting.{end-station, station_held}
use Rattle.tree.proofs.Linking.{insert-open, insert-closed}
use Rattle.tree.proofs.Lists.insert.Goals as goal

pub overflow_sub-self : goal.overflow_sub-self
overflow_sub-self c = (end-station _ c.requires.0 c.args.end c.requires.1 _ c.end_station-station.ensures).low

pub offset_bounds-self-station : goal.offset_bounds-self-station
offset_bounds-self-station c = let i = end-station _ c.requires.0 c.args.end c.requires.1 _ c.end_station-station.ensures in omega (arith, station_held _ c.requires.0 i)

pub bounds-self-station : goal.bounds-self-station
bounds-self-station c = let i = end-station _ c.requires.0 c.args.end c.requires.1 _ c.end_station-station.ensures in omega (arith, i.low, station_held _ c.requires.0 i)

pub overflow_sub-station : goal.overflow_sub-station
overflow_sub-station c = (end-station _ c.requires.0 c.args.end c.requires.1 _ c.end_station-station.ensures).low

pub offset_bounds-self-station-then-not-is_open : goal.offset_bounds-self-station-then-not-is_open
offset_bounds-self-station-then-not-is_open c = let i = end-station _ c.requires.0 c.args.end c.requires.1 _ c.end_station-station.ensures in omega (arith, station_held _ c.requires.0 i)

pub bounds-self-station-then-not-is_open : goal.bounds-self-station-then-not-is_open
bounds-self-station-then-not-is_open c = let i = end-station _ c.requires.0 c.args.end c.requires.1 _ c.end_station-station.ensures in omega (arith, i.low, station_held _ c.requires.0 i)

pub returns-then-not-is_open : goal.returns-then-not-is_open
returns-then-not-is_open c =
    let i = end-station _ c.requires.0 c.args.end c.requires.1 _ c.end_station-station.ensures in
    let e = c.code-code.ensures in
    insert-closed _ c.args.end _ e.value e.there c.requires.1 c.args.self.now _ c.end_station-station.ensures i.low
    (omega (arith, station_held _ c.requires.0 i))
    (omega (arith, e.there.high))
    (sym c.is_open.ensures ∙ c.if-not-is_open.true)

pub returns-else-not-is_open : goal.returns-else-not-is_open
returns-else-not-is_open c =
    let e = c.code-code.ensures in
    insert-open _ c.args.end _ e.value e.there c.requires.1 c.args.self.now (sym c.is_open.ensures ∙ c.if-not-is_open.false)
