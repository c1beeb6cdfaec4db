-- Where the places rise, `sets_up_to` lists its sets in dictionary order.
use Rattle.std.specs.Prelude.{ℕ}
use mathlib.Core.List.{List, []}
use Rattle.model.specs.Sets.{sets_up_to}
use Rattle.model.specs.Demand.{extended}
use Rattle.walks.specs.Sets.{extensions-extend}
use Rattle.walks.specs.Order.{Rising, Ordered, extensions-ordered}

-- each listed set is before all later ones
pub sets-ordered : (most : ℕ) (places : List ℕ) → Rising places → Ordered (sets_up_to most places)
unfolding sets_up_to
sets-ordered most places x = (
  (λ S m. let y = extensions-extend most [] places S m in rw y.joined extended),
  extensions-ordered most [] places x,
)
