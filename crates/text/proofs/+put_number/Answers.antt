use mathlib.Core.Path.{◌≡◌, refl, sym, ap, ◌∙◌}
use mathlib.Core.List.{List, []}
use Prim.Native.Nat.{ℕ, ◌+◌, ◌/◌, ◌%◌, ◌^◌, ◌≤◌, ◌<◌}
use native.Mathlib.Omega.{arith}
use lib.ListN.{length, set}
use borrow.Author.Rules.{rules}
use Rattle.model.specs.Text.{decimal}
use Rattle.theory.specs.TextSizes.{decimal-length}
use Rattle.text.proofs.Decimals.{decimal-short, decimal_step, decimal-step-length}
use Rattle.text.specs.Over.{over}
use Rattle.text.proofs.Over.{over-set}
use Rattle.text.proofs.+put_number.Goals as goal

-- a number of one digit
only : (b : List ℕ) (n : ℕ) → n < 10 → 1 ≤ length b → set b 0 (48 + n) ≡ over (decimal n) b
only b n k h = over-set [] b b 0 refl refl (48 + n) h ∙ ap (λ (ds : List ℕ). over ds b) (sym (decimal-short n k))

-- the last of several digits: its place is below 20
place : (n at : ℕ) → 10 ≤ n → n < 10 ^ 20 → at ≡ length (decimal (n / 10)) → (at + 1 ≡ length (decimal n)) × (at < 20)
place n at k f here = omega (arith, decimal-step-length n k, decimal-length 19 n f)

last : (b d : List ℕ) (n at : ℕ) → 10 ≤ n → at < length b → at ≡ length (decimal (n / 10)) → d ≡ over (decimal (n / 10)) b → set d at (48 + n % 10) ≡ over (decimal n) b
last b d n at k h here is = over-set (decimal (n / 10)) b d at is here (48 + n % 10) h ∙ ap (λ (ds : List ℕ). over ds b) (sym (decimal_step n k))

pub put_byte-requires-else-n-lt10 : goal.put_byte-requires-else-n-lt10
put_byte-requires-else-n-lt10 t c = omega (arith, place c.args.n _ (search rules) (search rules) c.put_number-at.ensures.written.0)

pub returns-then-n-lt10-clause-written : goal.returns-then-n-lt10-clause-written
returns-then-n-lt10-clause-written t c =
    (sym (ap length (decimal-short c.args.n (omega arith))), c.put_byte.ensures ∙ only _ c.args.n (search rules) (search rules))

pub returns-else-n-lt10-clause-written : goal.returns-else-n-lt10-clause-written
returns-else-n-lt10-clause-written t c =
    let e = c.put_number-at.ensures in
    let p = place c.args.n _ (search rules) (search rules) e.written.0 in
    (p.0, c.put_byte-else-n-lt10.ensures ∙ last _ _ _ _ (search rules) (search rules) e.written.0 e.written.1)

pub returns-else-n-lt10-clause-short : goal.returns-else-n-lt10-clause-short
returns-else-n-lt10-clause-short t c =
    let p = place c.args.n _ (search rules) (search rules) c.put_number-at.ensures.written.0 in
    (omega arith, omega arith)
