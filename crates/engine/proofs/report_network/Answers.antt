use Rattle.loading.proofs.Held.{is_loaded}
use Rattle.engine.proofs.report_network.Goals as goal

pub invariant_of-basis : goal.invariant_of-basis
invariant_of-basis c =
    let h = is_loaded c.args.loaded.now in
    record { based = ∣ record { accepted = h.accepted; outwards = h.prepared.tree.outwards; paths = h.prepared.paths; customers = c.customers-behind.ensures } ∣₁ }

pub total_of-total-requires : goal.total_of-total-requires
total_of-total-requires c = ((is_loaded c.args.loaded.now).accepted.read, c.impacts-impacts.ensures)

pub write_report-requires : goal.write_report-requires
write_report-requires c =
    let w = c.best_plan-plan.ensures in (
      record {
        planned = record { accepted = (is_loaded c.args.loaded.now).accepted; few = w.few; found = w.found };
        holds = c.impacts-impacts.ensures;
        is_total = c.total_of-total.ensures;
      },
      c.requires,
    )
