use Rattle.std.proofs.Common.{refl, ◌∙◌, subst, arith, length, length-set}
use Prim.Native.Nat.{◌+◌}
use Rattle.network.specs.There.{LineThere}
use Rattle.paths.specs.Held.{trip_in}
use Rattle.theory.specs.Gathering.{gathered_none}
use Rattle.tree.proofs.Fitting.{line_held}
use Rattle.outage.proofs.Breakers.{trip-there}
use Rattle.segments.proofs.Gathering.{Noted, noted_more, noted-fits, code-is, noted-all}
use Rattle.segments.proofs.Weights.of.Goals as goal

pub loop-line-init : goal.loop-line-init
loop-line-init c = (omega (arith, c.line_count-line-end.ensures.count), omega arith, omega arith, refl, gathered_none _ _ _ 1537)

pub trip_code-code-requires : goal.trip_code-code-requires
trip_code-code-requires c =
    let N = c.args.net.now in
    let a = c.requires.0 in
    let l = c.loop-line.line in
    let i : LineThere N l = record { low = omega arith; high = omega (arith, c.loop-line.invariant.0) } in
    (line_held N a.read i, line_held N a.read (trip-there N a.read a.rules l i c.args.paths.now c.requires.1 (trip_in c.args.paths.now l).line refl))

pub overflow_add-weights : goal.overflow_add-weights
overflow_add-weights c =
    let N = c.args.net.now in
    let l = c.loop-line.line in
    let i : LineThere N l = record { low = omega arith; high = omega (arith, c.loop-line.invariant.0) } in
    let k = code-is N l c.trip_code-code.result (trip_in c.args.paths.now l) c.trip_code-code.ensures.value (c.requires.1 l i) in
    omega (arith, noted-fits N c.requires.0.read c.loop-line.weights.by_code l c.trip_code-code.result i.high k c.loop-line.invariant.4, c.weight.ensures)

pub loop-line-preserved : goal.loop-line-preserved
loop-line-preserved c =
    let N = c.args.net.now in
    let l = c.loop-line.line in
    let i : LineThere N l = record { low = omega arith; high = omega (arith, c.loop-line.invariant.0) } in
    let k = code-is N l c.trip_code-code.result (trip_in c.args.paths.now l) c.trip_code-code.ensures.value (c.requires.1 l i) in
    (c.loop-line.invariant.0, omega arith, omega arith, length-set _ _ _ ∙ c.loop-line.invariant.3, noted_more N c.loop-line.weights.by_code l c.trip_code-code.result c.weight.result i.high (omega (arith, c.trip_code-code.ensures.few, c.loop-line.invariant.3)) k c.weight.ensures c.loop-line.invariant.4)

pub returns : goal.returns
returns c =
    let h = c.loop-line in
    let N = c.args.net.now in
    noted-all N c.requires.0.read c.requires.0.rules h.weights (subst (Noted N h.weights.by_code) {x = h.line} {y = length N.lines + 1} (omega (arith, h.invariant.0)) h.invariant.4)
