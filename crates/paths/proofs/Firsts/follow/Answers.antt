use Rattle.paths.proofs.Passing.{firsts-held}
use Rattle.paths.proofs.Firsts.follow.Goals as goal

pub returns : goal.returns
returns c = firsts-held c.args.net.now c.requires.0 c.requires.1 c.args.places.now (record { mets = c.follow.new.self }) c.follow.ensures c.requires.3
