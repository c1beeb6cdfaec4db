use Rattle.paths.proofs.Passing.{paths-held}
use Rattle.paths.proofs.Paths.follow.Goals as goal

pub returns : goal.returns
returns c = paths-held c.args.net.now c.requires.0 c.requires.1 c.mark_breakers.new.self (record { mets = c.follow.new.self }) c.follow.ensures c.mark_breakers.ensures
