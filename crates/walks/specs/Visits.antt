-- What holds of a walk that goes through a list of sets: one induction over `Run` for each claim.
use Rattle.std.specs.Prelude.{◌≡◌, Bool, ◌⊎◌, ℕ, suc, ◌+◌, ◌≤◌, ◌<◌}
use Rattle.std.proofs.Math.Path.{refl, subst}
use Rattle.std.proofs.Common.{sym, ◌∙◌, true≢false, inl, inr, ⊎_elim, eq-or-lt_of_le, eqb-true, ltb-true, ltb-false}
use Rattle.std.proofs.Math.Bool.{true, false}
use mathlib.Core.List.{List, ◌∷◌}
use mathlib.Core.List.Memᴰ
use mathlib.Core.List.{Memᴰ}
use native.Mathlib.Omega.{arith}
use Rattle.std.proofs.Math.ListN.{length}
use Rattle.std.proofs.Math.Dec.{eqb, ltb}
use Rattle.std.proofs.lemmas.Bool.{eqb-false}
use Rattle.model.specs.Lists.{keep}
use Rattle.model.specs.Walk.{Found, visit}
use Rattle.model.specs.Demand.{Before}
use Rattle.walks.specs.Order.{Ordered}
use Rattle.walks.specs.Runs.{on-true, on-false, Run, done, pass, step}

-- one more element, and how many pass the test
module _ {A : Type 0} (test : A → Bool) (x : A) (xs : List A) where
  keep-none-lost : length (keep test xs) ≤ length (keep test (x ∷ xs))
  unfolding keep
  keep-none-lost =
      elim (test x) as (λ t. length (keep test xs) ≤ length {A = A} (elim t as (λ _. List A) [ true ↦ x ∷ keep test xs | false ↦ keep test xs ])) [
        | true ↦ omega arith
        | false ↦ omega arith
      ]

  keep-one-more : test x ≡ true → length (keep test (x ∷ xs)) ≡ suc (length (keep test xs))
  unfolding keep
  keep-one-more e = rw (e, keep)

module _ (limit : ℕ) (total_of : List ℕ → ℕ) (is_allowed : List ℕ → Bool) (saving_of : ℕ → ℕ) where
  -- What a visit of `S` makes of `f`, case by case.
  pub data Saw (S : List ℕ) (f : Found) : Found → Type 0 where
    full : f.visits ≡ limit → Saw S f (record { members = f.members; best = f.best; visits = f.visits; spent = true })
    better : (f.visits ≡ limit → ⊥) → total_of S < f.best
        → Saw S f (record { members = S; best = total_of S; visits = suc f.visits; spent = f.spent })
    other : (f.visits ≡ limit → ⊥) → f.best ≤ total_of S
        → Saw S f (record { members = f.members; best = f.best; visits = suc f.visits; spent = f.spent })

  -- a visit is one of these
  pub saw : (S : List ℕ) (f : Found) → Saw S f (visit limit total_of is_allowed saving_of S f)
  unfolding visit
  saw S f = go (eqb f.visits limit) refl (ltb (total_of S) f.best) refl
    where
      go : (a : Bool) → eqb f.visits limit ≡ a → (b : Bool) → ltb (total_of S) f.best ≡ b → Saw S f (visit limit total_of is_allowed saving_of S f)
      go true ea b eb = subst (Saw S f) (sym (on-true _ _ ea)) (full (eqb-true _ _ ea))
      go false ea true eb = subst (Saw S f) (sym (on-false _ _ ea ∙ on-true _ _ eb)) (better (eqb-false _ _ ea) (ltb-true _ _ eb))
      go false ea false eb = subst (Saw S f) (sym (on-false _ _ ea ∙ on-false _ _ eb)) (other (eqb-false _ _ ea) (ltb-false _ _ eb))

  abbrev Runs : Found → List (List ℕ) → Found → Type 0
  Runs = Run limit total_of is_allowed saving_of

  -- What holds of every set that may be visited holds of the best set, whose total is the best total.
  module _ (P : List ℕ → Type 0) where
    abbrev pub Sound : Found → Type 0
    Sound f = P f.members × (total_of f.members ≡ f.best)

    saw-sound : {S : List ℕ} {f g : Found} → Saw S f g → P S → Sound f → Sound g
    saw-sound (full e) p x = x
    saw-sound (better e h) p x = (p, refl)
    saw-sound (other e h) p x = x

    pub run_sound : {f g : Found} {l : List (List ℕ)} → Runs f l g → ((S : List ℕ) → Memᴰ S l → is_allowed S ≡ true → P S) → Sound f → Sound g
    run_sound done h x = x
    run_sound (pass i s) h x = run_sound s (λ T m. h T (Memᴰ.tail m)) x
    run_sound (step {f = f} {S = S} a u s) h x =
        run_sound s (λ T m. h T (Memᴰ.tail m)) (saw-sound (saw S f) (h S (Memᴰ.head refl) a) x)

  -- After `n` allowed sets the visits are at most `n` and the limit, and the walk is spent only if they are the limit, below `n`.
  pub record Tally (n : ℕ) (f : Found) : Type 0 where
    pub listed : f.visits ≤ n
    pub limited : f.visits ≤ limit
    pub spent_at : f.spent ≡ true → (f.visits ≡ limit) × (limit < n)

  tally-more : {n : ℕ} (m : ℕ) {f : Found} → n ≤ m → Tally n f → Tally m f
  tally-more m h t = record {
    listed = omega arith;
    limited = t.limited;
    spent_at = λ s. ((t.spent_at s).0, omega (arith, (t.spent_at s).1));
  }

  saw-tally : {n : ℕ} {S : List ℕ} {f g : Found} → Saw S f g → f.spent ≡ false → Tally n f → Tally (suc n) g
  saw-tally (full e) u t = record { listed = omega arith; limited = t.limited; spent_at = λ s. (e, omega arith) }
  saw-tally (better e h) u t = record { listed = omega arith; limited = omega arith; spent_at = λ s. absurd (true≢false (sym s ∙ u)) }
  saw-tally (other e h) u t = record { listed = omega arith; limited = omega arith; spent_at = λ s. absurd (true≢false (sym s ∙ u)) }

  pub run-tally : {f g : Found} {l : List (List ℕ)} → Runs f l g → (n : ℕ) → Tally n f → Tally (n + length (keep is_allowed l)) g
  run-tally done n t = tally-more _ (omega arith) t
  run-tally (pass {S = S} {l = l} i s) n t =
      tally-more _ (omega (arith, keep-none-lost is_allowed S l)) (run-tally s n t)
  run-tally (step {f = f} {S = S} {l = l} a u s) n t =
      tally-more _ (omega (arith, keep-one-more is_allowed S l a)) (run-tally s (suc n) (saw-tally (saw S f) u t))

  -- the best set is `T` or before it
  abbrev pub NoLater : Found → List ℕ → Type 0
  NoLater f T = (T ≡ f.members) ⊎ Before f.members T

  -- the best total is smaller than that of `T`, or the same and the best set comes no later
  abbrev pub Leads : Found → List ℕ → Type 0
  Leads f T = (f.best < total_of T) ⊎ ((f.best ≡ total_of T) × NoLater f T)

  leads : {T : List ℕ} (f : Found) → f.best ≤ total_of T → NoLater f T → Leads f T
  leads f h n = ⊎_elim (λ e. inr (e, n)) inl (eq-or-lt_of_le h)

  -- after a visit of `S` the best leads what it led before, leads `S`, and comes no later than what is after `S`
  saw-keeps : {S T : List ℕ} {f g : Found} → Saw S f g → g.spent ≡ false → Leads f T → Leads g T
  saw-keeps (full e) u x = absurd (true≢false u)
  saw-keeps (better e h) u (inl k) = inl (omega arith)
  saw-keeps (better e h) u (inr x) = inl (omega arith)
  saw-keeps (other e h) u x = x

  saw-leads : {S : List ℕ} {f g : Found} → Saw S f g → g.spent ≡ false → NoLater f S → Leads g S
  saw-leads (full e) u n = absurd (true≢false u)
  saw-leads (better e h) u n = inr (refl, inl refl)
  saw-leads {f = f} (other e h) u n = leads f h n

  saw-no-later : {S T : List ℕ} {f g : Found} → Saw S f g → NoLater f T → Before S T → NoLater g T
  saw-no-later (full e) n b = n
  saw-no-later (better e h) n b = inr b
  saw-no-later (other e h) n b = n

  -- a walk that is spent stays so
  run-unspent : {f g : Found} {l : List (List ℕ)} → Runs f l g → g.spent ≡ false → f.spent ≡ false
  run-unspent done u = u
  run-unspent (pass i s) u = run-unspent s u
  run-unspent (step a e s) u = e

  -- what the best leads at the start it leads at the end
  run-keeps : {T : List ℕ} {f g : Found} {l : List (List ℕ)} → Runs f l g → g.spent ≡ false → Leads f T → Leads g T
  run-keeps done u x = x
  run-keeps (pass i s) u x = run-keeps s u x
  run-keeps (step {f = f} {S = S} a e s) u x = run-keeps s u (saw-keeps (saw S f) (run-unspent s u) x)

  -- Not spent, the best leads every allowed set of the list, if this is in order and nothing in it is before the best at the start.
  pub run-leads : {f g : Found} {l : List (List ℕ)} → Runs f l g → g.spent ≡ false → Ordered l
      → ((T : List ℕ) → Memᴰ T l → NoLater f T) → (T : List ℕ) → Memᴰ T l → is_allowed T ≡ true → Leads g T
  run-leads done u o n T m a = absurd (Memᴰ.not-nil m)
  run-leads (pass {f = f} {S = S} i s) u o n T m a =
      ⊎_elim
      (λ e. run-keeps s u
      (⊎_elim (λ t. absurd (true≢false (sym t ∙ run-unspent s u))) (λ h. leads f h (n T m)) (rw (← e) at i a)))
      (λ k. run-leads s u o.1 (λ U j. n U (Memᴰ.tail j)) T k a)
      (Memᴰ.cases_cons m)
  run-leads (step {f = f} {g = g} {S = S} b e s) u o n T m a =
      ⊎_elim
      (λ q. rw q (run-keeps s u (saw-leads (saw S f) (run-unspent s u) (n S (Memᴰ.head refl)))))
      (λ k. run-leads s u o.1 (λ U j. saw-no-later (saw S f) (n U (Memᴰ.tail j)) (o.0 U j)) T k a)
      (Memᴰ.cases_cons m)
