use Rattle.std.specs.Prelude.{◌≡◌}
use Rattle.model.specs.Network.{no_line}
use Rattle.network.specs.View.{line_of_held}
use Rattle.network.proofs.Held.{numbered-held}
use Rattle.network.proofs.Network.line.Goals as goal

pub returns : goal.returns
returns c =
    let v = c.self.view_is in
    let e : c.deref.result.now ≡ c.self.inside.lines.items = c.deref.ensures.0 in
    rw (e, ← v) (numbered-held line_of_held c.self.inside.lines.items c.args.line _ no_line c.requires.low (rw (← v) at c.requires.high))
