-- A table that passes the test of `Binomials` holds the binomial coefficients.
use mathlib.Core.Path.{◌≡◌, ap, ap₂, subst, ◌∙◌}
use mathlib.Core.Bool.{Bool, true, and-eq-true_iff}
use mathlib.Core.List.{List, [], ◌∷◌, map}
use Prim.Native.Nat.{ℕ, zero, suc, ◌+◌, ◌-◌, ◌^◌, ◌≤◌, ◌<◌}
use native.Mathlib.Omega.{arith}
use lib.Dec.{eqb, ltb}
use lib.ListN.{length, get_or}
use borrow.Author.Tests.{eqb-true, ltb-true}
use Rattle.model.specs.Lists.{sum, numbers}
use Rattle.model.specs.Ceiling.{binomial, set_count}
use Rattle.binomials.specs.Pascal.{every, entry, pascal, passes_row, Binomials}

-- what every entry passes, entry k passes
passes-from : {A : Type 0} (test : ℕ → A → Bool) (xs : List A) (other : A) (i : ℕ) → every test i xs ≡ true → (k : ℕ) → k < length xs → test (i + k) (get_or xs k other) ≡ true
passes-from test [] other i e k h = absurd (omega arith)
passes-from test (x ∷ xs) other i e zero h = subst (λ (m : ℕ). test m x ≡ true) (omega arith) ((and-eq-true_iff (test i x) (every test (suc i) xs)).0 e).0
passes-from test (x ∷ xs) other i e (suc k) h =
    subst (λ (m : ℕ). test m (get_or xs k other) ≡ true) (omega arith)
    (passes-from test xs other (suc i) ((and-eq-true_iff (test i x) (every test (suc i) xs)).0 e).1 k (omega arith))

passes : {A : Type 0} (test : ℕ → A → Bool) (xs : List A) (other : A) → every test 0 xs ≡ true → (k : ℕ) → k < length xs → test k (get_or xs k other) ≡ true
passes test xs other e k h = subst (λ (m : ℕ). test m (get_or xs k other) ≡ true) (omega arith) (passes-from test xs other 0 e k h)

module _ (t : List (List ℕ)) (b : Binomials t) where
  -- an entry follows the rule, and is small
  holds : (n k : ℕ) → n ≤ 64 → k ≤ 16 → (pascal t n k (entry t n k) ≡ true) × (ltb (entry t n k) (2 ^ 49) ≡ true)
  holds n k hn hk =
      let row = (and-eq-true_iff (eqb (length (get_or t n [])) 17) _).0 (passes (passes_row t) t [] b.rows n (omega (arith, b.long))) in
      (and-eq-true_iff (pascal t n k (entry t n k)) _).0 (passes _ (get_or t n []) 0 row.1 k (omega (arith, eqb-true _ _ row.0)))

  -- Pascal's rule
  pub entry-is : (n k : ℕ) → n ≤ 64 → k ≤ 16 → entry t n k ≡ binomial n k
  unfolding binomial
  entry-is n zero hn hk = eqb-true _ _ (holds n zero hn hk).0
  entry-is zero (suc k) hn hk = eqb-true _ _ (holds zero (suc k) hn hk).0
  entry-is (suc n) (suc k) hn hk =
      eqb-true _ _ (holds (suc n) (suc k) hn hk).0
      ∙ ap₂ (λ (x y : ℕ). x + y) (entry-is n (suc k) (omega arith) hk) (entry-is n k (omega arith) (omega arith))

  pub entry-small : (n k : ℕ) → n ≤ 64 → k ≤ 16 → entry t n k < 2 ^ 49
  entry-small n k hn hk = ltb-true _ _ (holds n k hn hk).1

-- the sum of a row from one column up to another, and the same less its first column
unfoldable pub columns : ℕ → ℕ → ℕ → ℕ
columns n k end = sum (map (λ column. binomial n column) (numbers k (end - k)))

pub columns-first : (n k end : ℕ) → k < end → columns n k end ≡ binomial n k + columns n (k + 1) end
unfolding columns sum numbers
columns-first n k end h =
    ap (λ (count : ℕ). sum (map (λ column. binomial n column) (numbers k count))) {x = end - k} {y = suc (end - (k + 1))} (omega arith)

pub columns-all : (n a : ℕ) → columns n 0 (a + 1) ≡ set_count n a
unfolding columns set_count
columns-all n a = ap (λ (count : ℕ). sum (map (λ column. binomial n column) (numbers 0 count))) {x = a + 1 - 0} {y = a + 1} (omega arith)

pub columns-none : (n k end : ℕ) → end ≤ k → columns n k end ≡ 0
unfolding columns sum numbers
columns-none n k end h = ap (λ (count : ℕ). sum (map (λ column. binomial n column) (numbers k count))) {x = end - k} {y = 0} (omega arith)
