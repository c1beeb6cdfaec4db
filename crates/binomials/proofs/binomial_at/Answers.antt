use Rattle.binomials.proofs.Entries.{entry-is, entry-small}
use Rattle.binomials.proofs.binomial_at.Goals as goal

pub returns : goal.returns
returns c =
    let (t, n, k) = c.requires in
    (entry-is c.args.table.now t c.args.row c.args.column n k, entry-small c.args.table.now t c.args.row c.args.column n k)
