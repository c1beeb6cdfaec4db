-- Two walks that differ in their limit alone.
use Rattle.std.specs.Prelude.{◌≡◌, Bool, true, false, ◌↔◌}
use Rattle.std.proofs.Math.Path.{refl}
use Rattle.std.proofs.Common.{sym, ap, ◌∙◌, true≢false}
use mathlib.Core.List.{List, [], ◌∷◌, ◌++◌}
use Prim.Native.Nat.{ℕ, zero, suc, ◌≤◌, ◌<◌, min}
use native.Mathlib.Omega.{arith}
use Rattle.model.specs.Walk.{Found, visit, hopeless, extend}
use Rattle.walks.specs.Runs.{on_both, on-pairs, extend-spent}
use Rattle.walks.specs.Visits.{Saw, full, better, other, saw}

-- What a walk with the limit `limit` finds, `f`, beside what it finds with a limit at which it is not spent, `g`.
pub record Limited (limit : ℕ) (f g : Found) : Type 0 where
  -- it is spent exactly when the other has more visits than the limit
  pub spent_when : (f.spent ≡ true) ↔ (limit < g.visits)
  -- its visits are the other's or the limit, whichever is smaller
  pub visits_are : f.visits ≡ min limit g.visits
  -- not spent, it finds what the other does
  pub found_same : f.spent ≡ false → f ≡ g

module _ (total_of : List ℕ → ℕ) (is_allowed : List ℕ → Bool) (saving_of : ℕ → ℕ) where
  abbrev Visit : ℕ → List ℕ → Found → Found
  Visit limit = visit limit total_of is_allowed saving_of

  abbrev Extend : ℕ → ℕ → List ℕ → List ℕ → Found → Found
  Extend limit = extend limit total_of is_allowed saving_of

  abbrev Saws : ℕ → List ℕ → Found → Found → Type 0
  Saws limit = Saw limit total_of is_allowed saving_of

  saws : (limit : ℕ) (S : List ℕ) (f : Found) → Saws limit S f (Visit limit S f)
  saws limit = saw limit total_of is_allowed saving_of

  -- a walk takes no visit back
  module _ (limit : ℕ) where
    saw-more : {S : List ℕ} {f g : Found} → Saws limit S f g → f.visits ≤ g.visits
    saw-more (full e) = omega arith
    saw-more (better e h) = omega arith
    saw-more (other e h) = omega arith

    extend-more : (r : ℕ) (S later : List ℕ) (f : Found) → f.visits ≤ (Extend limit r S later f).visits
    unfolding extend
    extend-more r S [] f = omega arith
    extend-more zero S (q ∷ later) f = omega arith
    extend-more (suc r) S (q ∷ later) f =
        let T = S ++ (q ∷ []) in
        let seen = Visit limit T f in
        let more : Found → Type 0 = λ g. f.visits ≤ g.visits in
        on_both more f.spent (omega arith)
        (on_both more (hopeless limit total_of is_allowed saving_of (suc r) S (q ∷ later) f) (omega arith)
        (on_both more (is_allowed T)
        (omega (arith, saw-more (saws limit T f), extend-more r T later seen, extend-more (suc r) S later (Extend limit r T later seen)))
        (extend-more (suc r) S later f)))

  module _ (limit enough : ℕ) where
    -- The two walks side by side: still the same, or the first is spent and the other past its limit, or the other is spent.
    pub data Beside (f g : Found) : Type 0 where
      same : f ≡ g → f.spent ≡ false → f.visits ≤ limit → Beside f g
      past : f.spent ≡ true → f.visits ≡ limit → limit < g.visits → Beside f g
      over : g.spent ≡ true → Beside f g

    saw-beside : {S : List ℕ} {f g h : Found} → Saws limit S f g → Saws enough S f h → f.spent ≡ false → f.visits ≤ limit → Beside g h
    saw-beside x (full e) u l = over refl
    saw-beside (full e) (better d k) u l = past refl e (omega arith)
    saw-beside (full e) (other d k) u l = past refl e (omega arith)
    saw-beside (better e h) (better d k) u l = same refl u (omega arith)
    saw-beside (better e h) (other d k) u l = absurd (omega arith)
    saw-beside (other e h) (better d k) u l = absurd (omega arith)
    saw-beside (other e h) (other d k) u l = same refl u (omega arith)

    pub visit-beside : (S : List ℕ) (f : Found) → f.spent ≡ false → f.visits ≤ limit → Beside (Visit limit S f) (Visit enough S f)
    visit-beside S f = saw-beside (saws limit S f) (saws enough S f)

    pub extend-beside : (r : ℕ) (S later : List ℕ) {f g : Found} → Beside f g → Beside (Extend limit r S later f) (Extend enough r S later g)
    unfolding extend hopeless
    extend-beside r S [] b = b
    extend-beside zero S (q ∷ later) b = b
    extend-beside (suc r) S (q ∷ later) {f} (same e u l) =
        let T = S ++ (q ∷ []) in
        rw (← e)
        (on-pairs Beside f.spent (same refl u l)
        (on-pairs Beside (hopeless limit total_of is_allowed saving_of (suc r) S (q ∷ later) f) (same refl u l)
        (on-pairs Beside (is_allowed T)
        (extend-beside (suc r) S later (extend-beside r T later (visit-beside T f u l)))
        (extend-beside (suc r) S later (same refl u l)))))
    extend-beside (suc r) S (q ∷ later) {f} {g} (past s v l) =
        rw (extend-spent limit total_of is_allowed saving_of r S q later f s)
        (past s v (omega (arith, extend-more enough (suc r) S (q ∷ later) g)))
    extend-beside (suc r) S (q ∷ later) {g = g} (over s) =
        rw (extend-spent enough total_of is_allowed saving_of r S q later g s) (over s)

    pub limited : {f g : Found} → Beside f g → g.spent ≡ false → Limited limit f g
    limited (same e u l) t = record {
      spent_when = (λ s. absurd (true≢false (sym s ∙ u)), λ k. absurd (omega (arith, ap (λ h. h.visits) e)));
      visits_are = omega (arith, ap (λ h. h.visits) e);
      found_same = λ v. e;
    }
    limited (past s v l) t = record {
      spent_when = (λ e. l, λ k. s);
      visits_are = omega arith;
      found_same = λ e. absurd (true≢false (sym s ∙ e));
    }
    limited (over s) t = absurd (true≢false (sym s ∙ t))
