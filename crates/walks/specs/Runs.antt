-- The walk goes through the list of all sets in order: it visits a set, or passes over one that changes nothing.
use Rattle.std.specs.Prelude.{◌≡◌, Bool, true, false, ◌⊎◌}
use Rattle.std.proofs.Math.Path.{refl}
use Rattle.std.proofs.Common.{sym, ◌∙◌, true≢false}
use Rattle.std.proofs.Math.Logic.{inr}
use mathlib.Core.List.{List, [], ◌∷◌, ◌++◌, map, Sublistᴰ}
use mathlib.Core.List.{Memᴰ}
use Prim.Native.Nat.{ℕ, suc, ◌+◌, ◌≤◌}
use native.Mathlib.Omega.{arith}
use borrow.Author.Tests.{leb-true}
use Rattle.model.specs.Walk.{Found, largest, visit, hopeless, extend}
use Rattle.walks.specs.Largest.{sum-largest}
use Rattle.walks.specs.Sets.{Extends}
use Rattle.walks.specs.Claims.{Asks}

-- a branch on a test whose value is known
module _ {A : Type 0} (x y : A) where
  pub on-true : {b : Bool} → b ≡ true → elim b as (λ _. A) [ true ↦ x | false ↦ y ] ≡ x
  on-true e = rw e

  pub on-false : {b : Bool} → b ≡ false → elim b as (λ _. A) [ true ↦ x | false ↦ y ] ≡ y
  on-false e = rw e

-- what holds of both branches, or of both pairs of branches, holds whichever way the test goes
module _ {A : Type 0} where
  pub on_both : (P : A → Type 0) (b : Bool) {x y : A} → P x → P y → P (elim b as (λ _. A) [ true ↦ x | false ↦ y ])
  on_both P true p q = p
  on_both P false p q = q

  pub on-pairs : (R : A → A → Type 0) (b : Bool) {x y z w : A} → R x z → R y w
      → R (elim b as (λ _. A) [ true ↦ x | false ↦ y ]) (elim b as (λ _. A) [ true ↦ z | false ↦ w ])
  on-pairs R true p q = p
  on-pairs R false p q = q

module _ (limit : ℕ) (total_of : List ℕ → ℕ) (is_allowed : List ℕ → Bool) (saving_of : ℕ → ℕ) where
  abbrev Visit : List ℕ → Found → Found
  Visit = visit limit total_of is_allowed saving_of

  abbrev Extend : ℕ → List ℕ → List ℕ → Found → Found
  Extend = extend limit total_of is_allowed saving_of

  abbrev Hopeless : ℕ → List ℕ → List ℕ → Found → Bool
  Hopeless = hopeless limit total_of is_allowed saving_of

  -- how `extend` goes on at a place, by its tests
  module _ (r : ℕ) (S : List ℕ) (q : ℕ) (later : List ℕ) (f : Found) where
    pub extend-spent : f.spent ≡ true → Extend (suc r) S (q ∷ later) f ≡ f
    unfolding extend
    extend-spent a = on-true _ _ a

    pub extend-hopeless : f.spent ≡ false → Hopeless (suc r) S (q ∷ later) f ≡ true → Extend (suc r) S (q ∷ later) f ≡ f
    unfolding extend
    extend-hopeless a b = on-false _ _ a ∙ on-true _ _ b

    pub extend-allowed : f.spent ≡ false → Hopeless (suc r) S (q ∷ later) f ≡ false → is_allowed (S ++ (q ∷ [])) ≡ true
        → Extend (suc r) S (q ∷ later) f ≡ Extend (suc r) S later (Extend r (S ++ (q ∷ [])) later (Visit (S ++ (q ∷ [])) f))
    unfolding extend
    extend-allowed a b c = on-false _ _ a ∙ (on-false _ _ b ∙ on-true _ _ c)

    pub extend-barred : f.spent ≡ false → Hopeless (suc r) S (q ∷ later) f ≡ false → is_allowed (S ++ (q ∷ [])) ≡ false
        → Extend (suc r) S (q ∷ later) f ≡ Extend (suc r) S later f
    unfolding extend
    extend-barred a b c = on-false _ _ a ∙ (on-false _ _ b ∙ on-false _ _ c)

  -- A set that changes nothing: it is not allowed, or the walk is spent, or the set's total is not below the best.
  abbrev pub Idle : Found → List ℕ → Type 0
  Idle f S = is_allowed S ≡ true → (f.spent ≡ true) ⊎ (f.best ≤ total_of S)

  -- `Run f l g`: from `f` the sets `l`, in this order, each visited or idle, lead to `g`.
  pub data Run : Found → List (List ℕ) → Found → Type 0 where
    done : {f : Found} → Run f [] f
    pass : {f g : Found} {S : List ℕ} {l : List (List ℕ)} → Idle f S → Run f l g → Run f (S ∷ l) g
    step : {f g : Found} {S : List ℕ} {l : List (List ℕ)} → is_allowed S ≡ true → f.spent ≡ false → Run (Visit S f) l g → Run f (S ∷ l) g

  -- two lists, one after the other
  pub run-append : {f g h : Found} {l m : List (List ℕ)} → Run f l g → Run g m h → Run f (l ++ m) h
  run-append done t = t
  run-append (pass i s) t = pass i (run-append s t)
  run-append (step a u s) t = step a u (run-append s t)

  -- a list of sets that change nothing
  pub run-idle : (f : Found) (l : List (List ℕ)) → ((S : List ℕ) → Memᴰ S l → Idle f S) → Run f l f
  run-idle f [] h = done
  run-idle f (S ∷ l) h = pass (h S (Memᴰ.head refl)) (run-idle f l (λ T m. h T (Memᴰ.tail m)))

  module _ (adds : ℕ) (places : List ℕ) (asks : Asks total_of is_allowed saving_of adds places) where
    -- `S` with any of `later` behind it is a set of places
    abbrev pub Inside : List ℕ → List ℕ → Type 0
    Inside S later = (U : List ℕ) → Sublistᴰ U later → Sublistᴰ (S ++ U) places

    -- a hopeless set has no allowed extension with a total below the best
    pub hopeless-idle : (r : ℕ) (S later : List ℕ) (f : Found) → Inside S later → Hopeless r S later f ≡ true
        → (T : List ℕ) → Extends r S later T → Idle f T
    unfolding hopeless
    hopeless-idle r S later f i e T x a =
        let U = x.next ∷ x.rest in
        inr (rw x.joined
        (omega (
          arith,
          leb-true (f.best + largest r (map saving_of later)) (total_of S) e,
          asks.saves S U (i U x.within) (rw x.joined at a),
          sum-largest saving_of r x.within x.few,
        )))

    -- a set that is not allowed has no allowed extension
    pub barred-idle : (r : ℕ) (S later : List ℕ) (f : Found) → Inside S later → is_allowed S ≡ false
        → (T : List ℕ) → Extends r S later T → Idle f T
    barred-idle r S later f i e T x a =
        let U = x.next ∷ x.rest in
        absurd (true≢false (sym (asks.part S U (i U x.within) (rw x.joined at a)) ∙ e))
