use Rattle.loading.proofs.Held.{is_loaded}
use Rattle.loading.proofs.Loaded.customers.Goals as goal

pub sum-requires : goal.sum-requires
sum-requires c = let h = is_loaded c.args.self.now in (h.accepted.read, h.accepted.rules, h.prepared.tree.linked)
