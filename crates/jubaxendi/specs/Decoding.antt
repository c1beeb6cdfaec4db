-- The number that a call returns says whether it answered, and else which refusal it is.
use Rattle.std.specs.Prelude.{ℕ, zero, suc, ◌+◌, ◌*◌, ◌/◌, ◌%◌, ◌≡◌, refl}
use Rattle.std.proofs.Common.{arith}
use Rattle.model.specs.Answer.{Answer, given, refused, ◌>>=◌}
use Rattle.theory.specs.Refusals.{Bounded}
use Rattle.jubaxendi.specs.Numbers.{returned}

-- what a returned number says: 0 that the call answered, any other its refusal
unfoldable pub decoded : ℕ → Answer (Unit {0})
decoded zero = given tt
decoded (suc n) = refused (suc n / 65536) (suc n % 65536)

-- what a call returns says whether it answered, and else gives its refusal's number and record
pub returned-decodes : {A : Type 0} (a : Answer A) → Bounded a → decoded (returned a) ≡ (a >>= λ x. given tt)
unfolding returned decoded
returned-decodes (given x) b = refl
returned-decodes (refused number place) b = go (number * 65536 + place) refl
  where
    go : (n : ℕ) → n ≡ number * 65536 + place → decoded n ≡ refused number place
    go zero e = absurd (omega (arith, b.least, e))
    go (suc n) e =
        let p : suc n / 65536 ≡ number = omega (arith, b.below, e) in
        let q : suc n % 65536 ≡ place = omega (arith, b.below, e) in
        λ i. refused (p i) (q i)
