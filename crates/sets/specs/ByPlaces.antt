-- The total and the series rule of every set of places of an accepted file, by its places: one after another, each with those before it.
use Prim.Native.Nat.{ℕ, ◌+◌, ◌*◌, ◌-◌, ◌≤◌, ◌<◌}
use Rattle.std.specs.Prelude.{◌≡◌, false, ◌≢◌, length}
use Rattle.std.proofs.Common.{sym, ◌∙◌, subst, ⊎_elim, mul-add}
use Rattle.std.proofs.Math.Path.{ap}
use mathlib.Core.List.Memᴰ
use mathlib.Core.List.{List, [], ◌∷◌, ◌++◌, append_assoc, append-nil, Sublistᴰ, Memᴰ}
use Rattle.std.proofs.Math.Decide.{dec_le}
use native.Mathlib.Omega.{arith}
use Rattle.model.specs.Network.{Network}
use Rattle.model.specs.Paths.{End, is_open}
use Rattle.model.specs.Outage.{customers_behind, total}
use Rattle.model.specs.Sets.{place_numbers, with_breakers, set_total}
use Rattle.graphs.specs.Graph.{NoRepeat}
use Rattle.graphs.specs.Sum.{Fresh-not}
use Rattle.savings.specs.Breakers.{end_at, Valid, valid-append}
use Rattle.savings.specs.Totals.{breakers_with, set_total-falls}
use Rattle.theory.specs.Behind.{none_of, numbers-once}
use Rattle.theory.specs.Forest.{tree}
use Rattle.theory.specs.Best.{Accepted, place-closed}
use Rattle.sets.specs.Sets.{upstream_at, weight_at, in_series_at, set-total}
use Rattle.sets.specs.Apart.{place-free}

-- how much the total falls with the places of a list, behind a set
unfoldable pub fallen : Network → List ℕ → List ℕ → ℕ
fallen N S [] = 0
fallen N S (q ∷ later) =
    weight_at N S (end_at N q) * (customers_behind N (upstream_at N S (end_at N q)) - customers_behind N (end_at N q)) + fallen N (S ++ (q ∷ [])) later

-- fewer than `series` breakers are in series with each place of a list, behind a set
abbrev pub FewInSeries : Network → List ℕ → List ℕ → Type 0
FewInSeries N S [] = Unit {0}
FewInSeries N S (q ∷ later) = (in_series_at N S (end_at N q) < N.head.series) × FewInSeries N (S ++ (q ∷ [])) later

-- each place of a list is on an end that is closed, and has no breaker with the places before it
abbrev pub Free : Network → List ℕ → List ℕ → Type 0
Free N S [] = Unit {0}
Free N S (q ∷ later) = (is_open N (end_at N q) ≡ false) × (breakers_with N S (end_at N q) ≡ false) × Free N (S ++ (q ∷ [])) later

-- a product with a difference
less : (w n k t u : ℕ) → u ≤ t → u + w * n ≡ t + w * k → u + w * (n - k) ≡ t
less w n k t u h e = go (dec_le k n)
  where
    go : Dec (k ≤ n) → u + w * (n - k) ≡ t
    go (yes l) = let m : n ≡ k + (n - k) = omega arith in omega (arith, e, ap (λ x. w * x) m ∙ mul-add w k (n - k))
    go (no l) =
        let m : k ≡ n + (k - n) = omega arith in
        omega (arith, e, h, ap (λ x. w * x) {x = n - k} {y = 0} (omega arith), ap (λ x. w * x) m ∙ mul-add w n (k - n))

module _ (N : Network) (a : Accepted N) where
  free_part : (before : List ℕ) {S places : List ℕ} → Sublistᴰ S places → NoRepeat places → ((p : ℕ) → Memᴰ p places → Memᴰ p (place_numbers N)) → ((p : ℕ) → Memᴰ p before → Memᴰ p (place_numbers N))
      → ((p b : ℕ) → Memᴰ p places → Memᴰ b before → p ≢ b) → Free N before S
  free_part before Sublistᴰ.slnil o h k f = tt
  free_part before (Sublistᴰ.cons s) o h k f = free_part before s o.1 (λ p m. h p (Memᴰ.tail m)) k (λ p b m. f p b (Memᴰ.tail m))
  free_part before (Sublistᴰ.cons-cons {a = q} e s) o h k f = (
    place-closed N a q (h q (Memᴰ.head e)),
    place-free N a q (h q (Memᴰ.head e)) before k (none_of q before (λ b m. f q b (Memᴰ.head e) m)),
    free_part (before ++ (q ∷ [])) s o.1 (λ p m. h p (Memᴰ.tail m))
        (λ p m. ⊎_elim (k p) (λ n. subst (λ j. Memᴰ j (place_numbers N)) (sym (Memᴰ.eq_of_singleton n)) (h q (Memᴰ.head e))) (Memᴰ.append_cases before m))
        (λ p b m n. ⊎_elim (f p b (Memᴰ.tail m)) (λ j i. Fresh-not _ p _ o.0 m (i ∙ Memᴰ.eq_of_singleton j ∙ e)) (Memᴰ.append_cases before n)),
  )

  pub free-set : {S : List ℕ} → Sublistᴰ S (place_numbers N) → Free N [] S
  unfolding place_numbers
  free-set s = free_part [] s (numbers-once 1 (length N.places)) (λ p m. m) (λ p m. absurd (Memᴰ.not-nil m)) (λ p b m n. absurd (Memᴰ.not-nil n))

  total-behind : (before S : List ℕ) → Valid N before → Free N before S → set_total N (before ++ S) + fallen N before S ≡ set_total N before
  unfolding fallen
  total-behind before [] v f = omega (arith, ap (λ T. set_total N T) (append-nil before))
  total-behind before (q ∷ later) v f =
      let e : End = end_at N q in
      let next : List ℕ = before ++ (q ∷ []) in
      let w : Valid N next = valid-append N before (q ∷ []) v (f.0, tt) in
      omega (
        arith,
        less (weight_at N before e) (customers_behind N (upstream_at N before e)) (customers_behind N e) (set_total N before) (set_total N next) (set_total-falls N (tree N a.read a.rules) before (q ∷ []) w)
            (set-total N a.read a.rules before v q f.0 f.1),
        total-behind next later w f.2,
        ap (λ T. set_total N T) (append_assoc before (q ∷ []) later),
      )

  -- the total of a set of places: that of the file, less what each place spares
  pub total-by-places : (S : List ℕ) → Sublistᴰ S (place_numbers N) → set_total N S + fallen N [] S ≡ total N
  unfolding set_total with_breakers
  total-by-places S s = total-behind [] S tt (free-set s)
