use Rattle.bounds.proofs.Entries.{bound-is}
use Rattle.bounds.proofs.Bounds.most_saved.Goals as goal

pub returns-clause-most : goal.returns-clause-most
returns-clause-most c = λ N h l. bound-is N c.args.self.now h _ _ c.requires.0 c.requires.1 l
