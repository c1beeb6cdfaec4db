use Rattle.loading.proofs.Held.{is_loaded}
use Rattle.engine.proofs.table_network.Goals as goal

pub write_table-requires-clause-ready : goal.write_table-requires-clause-ready
write_table-requires-clause-ready c = let h = is_loaded c.args.loaded.now in (h.accepted, h.prepared.paths.trips, c.customers-behind.ensures)
