use Rattle.std.proofs.Common.{refl, sym, ap, arith, ◌∙◌}
use Prim.Native.Nat.{ℕ}
use Rattle.model.specs.Answer.{given}
use Rattle.binomials.proofs.Answers.{too-many-places, too-many-additions, within-bounds}
use Rattle.binomials.proofs.ceiling.Goals as goal

pub returns-then-places-gt64 : goal.returns-then-places-gt64
returns-then-places-gt64 c = sym (too-many-places _ _ (omega arith))

pub returns-then-additions-gt16 : goal.returns-then-additions-gt16
returns-then-additions-gt16 c = sym (too-many-additions _ _ (omega arith))

-- the test of the whole table, computed
pub set_count-requires : goal.set_count-requires
set_count-requires c = (record { long = refl; rows = refl }, omega arith, omega arith)

pub returns : goal.returns
returns c = ap (λ (n : ℕ). given n) c.set_count.ensures ∙ sym (within-bounds _ _ (omega arith) (omega arith))
