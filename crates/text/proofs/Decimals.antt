-- The decimal digits of a number: those of its tenth and the last one, and how many there are.
use mathlib.Core.Path.{◌≡◌, refl, sym, ap, ◌∙◌}
use mathlib.Core.Bool.{true, false}
use mathlib.Core.List.{List, [], ◌∷◌, ◌++◌}
use Prim.Native.Nat.{ℕ, zero, suc, ◌+◌, ◌/◌, ◌%◌, ◌≤◌, ◌<◌}
use native.Mathlib.Omega.{arith}
use lib.Dec.{ltb}
use lib.ListN.{length, length-append}
use borrow.Author.Tests.{lt-ltb, le-ltb}
use Rattle.model.specs.Text.{digits, decimal}

digits-short : (more n : ℕ) → n < 10 → digits more n ≡ (48 + n) ∷ []
unfolding digits
digits-short zero n h = refl
digits-short (suc more) n h = rw (lt-ltb n 10 h, digits)

-- once the first argument is at least the number, the digits do not depend on it
digits_same : (a b n : ℕ) → n ≤ a → n ≤ b → digits a n ≡ digits b n
unfolding digits
digits_same zero b n h k = sym (digits-short b n (omega arith))
digits_same (suc a) zero n h k = digits-short (suc a) n (omega arith)
digits_same (suc a) (suc b) n h k =
    ap (λ (ds : List ℕ). elim (ltb n 10) as (λ x. List ℕ) [ true ↦ (48 + n) ∷ [] | false ↦ ds ++ ((48 + n % 10) ∷ []) ])
    (digits_same a b (n / 10) (omega arith) (omega arith))

pub decimal-short : (n : ℕ) → n < 10 → decimal n ≡ (48 + n) ∷ []
unfolding decimal
decimal-short n h = digits-short n n h

pub decimal_step : (n : ℕ) → 10 ≤ n → decimal n ≡ decimal (n / 10) ++ ((48 + n % 10) ∷ [])
unfolding decimal digits
decimal_step zero h = absurd (omega arith)
decimal_step (suc m) h =
    rw (le-ltb (suc m) 10 h, digits) (ap (λ (ds : List ℕ). ds ++ ((48 + suc m % 10) ∷ [])) (digits_same m (suc m / 10) (suc m / 10) (omega arith) (omega arith)))

pub decimal-step-length : (n : ℕ) → 10 ≤ n → length (decimal n) ≡ length (decimal (n / 10)) + 1
decimal-step-length n h = ap length (decimal_step n h) ∙ length-append (decimal (n / 10)) ((48 + n % 10) ∷ [])
