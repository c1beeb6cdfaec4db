-- A call that is lent a buffer: refused if it is too short, else as if it were lent none.
use Prim.Native.Nat.{ℕ, ◌≤◌, ◌<◌}
use mathlib.Core.Path.{◌≡◌, ap}
use mathlib.Core.Bool.{true, false}
use mathlib.Core.List.{List}
use lib.ListN.{length}
use borrow.Author.Tests.{lt-ltb, le-ltb}
use Rattle.model.specs.Answer.{Answer, refuse_buffer}
use Rattle.model.specs.Calls.{lent}

module _ {A : Type 0} (least : ℕ) (buffer : List ℕ) (answer : Answer A) where
  pub lent-short : length buffer < least → lent least buffer answer ≡ refuse_buffer
  unfolding lent
  lent-short h = ap (λ b. elim b as (λ x. Answer A) [ true ↦ refuse_buffer | false ↦ answer ]) (lt-ltb (length buffer) least h)

  pub lent-enough : least ≤ length buffer → lent least buffer answer ≡ answer
  unfolding lent
  lent-enough h = ap (λ b. elim b as (λ x. Answer A) [ true ↦ refuse_buffer | false ↦ answer ]) (le-ltb (length buffer) least h)
