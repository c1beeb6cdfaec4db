use Rattle.radial.specs.Stations.{marked-is}
use Rattle.radial.proofs.Parts.is_supplied.Goals as goal

pub returns : goal.returns
returns c = marked-is c.args.self.now.holds c.requires.marked c.label.ensures.0 c.requires.there
