use mathlib.Core.Path.{ap, ◌∙◌}
use mathlib.Core.Bool.{◌&&◌}
use Rattle.model.specs.Paths.{same_end}
use Rattle.model.specs.Sets.{place_at}
use Rattle.paths.specs.Held.{trip_in}
use Rattle.starts.proofs.UnderPlaces.{under-is}
use Rattle.starts.proofs.under.Goals as goal

pub returns-then-behind : goal.returns-then-behind
returns-then-behind c =
    let N = c.args.net.now in
    let paths = c.args.paths.now in
    let (a, x, y) = c.requires.places in
    let (n, h) = c.requires.held in
    c.trip_together.ensures
    ∙ (λ i. same_end (trip_in paths (c.place_line.ensures i)) (trip_in paths (c.place_line-then-behind.ensures i)))
    ∙ ap (λ b. b && same_end (trip_in paths (place_at N c.args.s).line) (trip_in paths (place_at N c.args.p).line)) c.if-behind.ensures
    ∙ under-is N a c.args.relations.now h c.args.p c.args.s x y paths n

pub returns-else-behind : goal.returns-else-behind
returns-else-behind c =
    let N = c.args.net.now in
    let paths = c.args.paths.now in
    let (a, x, y) = c.requires.places in
    let (n, h) = c.requires.held in
    c.if-behind.false
    ∙ ap (λ b. b && same_end (trip_in paths (place_at N c.args.s).line) (trip_in paths (place_at N c.args.p).line)) c.if-behind.ensures
    ∙ under-is N a c.args.relations.now h c.args.p c.args.s x y paths n
