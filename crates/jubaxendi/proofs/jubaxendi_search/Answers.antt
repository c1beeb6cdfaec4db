use Rattle.theory.specs.Refusals.{search-bounded}
use Rattle.jubaxendi.proofs.jubaxendi_search.Goals as goal

pub hand_over-requires : goal.hand_over-requires
hand_over-requires c = rw c.search.ensures.result_value (search-bounded _ _)
