-- The first of the numbers 1 to n that passes a test, 0 where none does: and what a search for it says.
use Prim.Native.Nat.{ℕ, zero, suc, ◌+◌, ◌≤◌, ◌<◌}
use Rattle.std.specs.Prelude.{◌≡◌, Bool, Option, Some, None, MatchOption}
use Rattle.std.proofs.Math.Path.{refl, ap}
use Rattle.std.proofs.Common.{sym, ◌∙◌, true≢false, arith}
use Rattle.std.proofs.Math.Bool.{true, false}
use Rattle.std.proofs.Math.Decide.{ℕ_discrete}
use Rattle.model.specs.Lists.{numbers, first_or}
use Rattle.network.specs.Found.{found, found-some, found-none}

module _ (test : ℕ → Bool) where
  pick : ℕ → Bool → ℕ → ℕ
  pick k b r = elim b [ true ↦ k | false ↦ r ]

  first-at : (from count k : ℕ) → from ≤ k → k < from + count → ((j : ℕ) → from ≤ j → j < k → test j ≡ false) → test k ≡ true → first_or 0 test (numbers from count) ≡ k
  unfolding first_or numbers pick
  first-at from zero k a b h e = absurd (omega arith)
  first-at from (suc count) k a b h e = go (ℕ_discrete from k) (test from) refl (λ l. first-at (from + 1) count k l (omega arith) (λ j c d. h j (omega arith) d) e)
    where
      go : Dec (from ≡ k) → (t : Bool) → test from ≡ t → (from + 1 ≤ k → first_or 0 test (numbers (from + 1) count) ≡ k) → pick from t (first_or 0 test (numbers (from + 1) count)) ≡ k
      go (yes p) true q ih = p
      go (yes p) false q ih = absurd (true≢false (sym e ∙ ap test (sym p) ∙ q))
      go (no p) true q ih = absurd (true≢false (sym q ∙ h from (omega arith) (omega arith)))
      go (no p) false q ih = ih (omega arith)

  first-none : (from count : ℕ) → ((j : ℕ) → from ≤ j → j < from + count → test j ≡ false) → first_or 0 test (numbers from count) ≡ 0
  unfolding first_or numbers pick
  first-none from zero h = refl
  first-none from (suc count) h = ap (λ t. pick from t (first_or 0 test (numbers (from + 1) count))) (h from (omega arith) (omega arith)) ∙ first-none (from + 1) count (λ j a b. h j (omega arith) (omega arith))

  none_from : (from count k : ℕ) → 1 ≤ from → first_or 0 test (numbers from count) ≡ 0 → from ≤ k → k < from + count → test k ≡ false
  unfolding first_or numbers pick
  none_from from zero k l z a b = absurd (omega arith)
  none_from from (suc count) k l z a b = go (ℕ_discrete from k) (test from) refl z (λ y c. none_from (from + 1) count k (omega arith) y c (omega arith))
    where
      go : Dec (from ≡ k) → (t : Bool) → test from ≡ t → pick from t (first_or 0 test (numbers (from + 1) count)) ≡ 0 → (first_or 0 test (numbers (from + 1) count) ≡ 0 → from + 1 ≤ k → test k ≡ false) → test k ≡ false
      go p true q y ih = absurd (omega arith)
      go (yes p) false q y ih = ap test (sym p) ∙ q
      go (no p) false q y ih = ih y (omega arith)

  -- where the first is 0, none passes
  pub first-zero : (n : ℕ) → first_or 0 test (numbers 1 n) ≡ 0 → (k : ℕ) → 1 ≤ k → k ≤ n → test k ≡ false
  first-zero n z k a b = none_from 1 n k (omega arith) z a (omega arith)

  -- a search from 1 on to the number before `end`: none passes, or `i` does and none before it
  pub first-found : (n end : ℕ) (r : Option ℕ) → end ≡ n + 1
      → MatchOption r ((k : ℕ) → 1 ≤ k → k < end → test k ≡ false) (λ i. (1 ≤ i) × (i < end) × (test i ≡ true) × ((k : ℕ) → 1 ≤ k → k < i → test k ≡ false))
      → r ≡ found (first_or 0 test (numbers 1 n))
  first-found n end None e h = found-none _ (sym (first-none 1 n (λ j a b. h j a (omega arith))))
  first-found n end (Some i) e h = found-some i _ h.0 (sym (first-at 1 n i h.0 (omega arith) h.3 h.2))
