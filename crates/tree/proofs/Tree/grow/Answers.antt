use Rattle.tree.proofs.Queueing.{grown, grown-count}
use Rattle.tree.proofs.Tree.grow.Goals as goal

pub returns-clause-tree : goal.returns-clause-tree
returns-clause-tree c = grown c.args.net.now c.requires.0 c.requires.1 _ c.spread.ensures c.link.ensures.ends

pub returns-clause-count : goal.returns-clause-count
returns-clause-count c = grown-count c.args.net.now c.requires.0 c.requires.1 (record { lists = c.link.new.self.lists; supply = c.spread.new.self }) c.spread.ensures
