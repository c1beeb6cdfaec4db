use Rattle.loading.proofs.Held.{is_loaded}
use Rattle.loading.proofs.Loaded.impacts.Goals as goal

pub fill-requires : goal.fill-requires
fill-requires c = let h = is_loaded c.args.self.now in (h.accepted.read, h.accepted.rules, h.prepared.paths.trips, c.customers.ensures)
