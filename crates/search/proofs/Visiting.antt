-- A visit of a set, by its tests.
use Prim.Native.Nat.{ℕ, ◌+◌, ◌-◌}
use mathlib.Core.Path.{◌≡◌, refl, sym, ◌∙◌}
use mathlib.Core.Bool.{true, false, true≢false}
use mathlib.Core.List.{List}
use native.Mathlib.Numerals.{add-one}
use native.Mathlib.Omega.{arith}
use lib.Dec.{ltb}
use borrow.Author.Tests.{eq-eqb, ne_eqb, ltb-true, ltb-false, lt-ltb, le-ltb}
use Rattle.std.specs.Prelude.{Option, None, Some}
use Rattle.std.specs.Option.{is_some}
use Rattle.model.specs.Network.{Network}
use Rattle.model.specs.Outage.{total}
use Rattle.model.specs.Sets.{set_total}
use Rattle.model.specs.Walk.{visit}
use Rattle.walks.specs.Runs.{on-true, on-false}
use Rattle.search.specs.Walking.{found_in, visited, Counted}
use Rattle.search.specs.declared.Progress.{Progress}

-- an option that is not some is none
pub none-is : {A : Type 0} (o : Option A) → is_some o ≡ false → o ≡ None
none-is None e = refl
none-is (Some a) e = absurd (true≢false e)

module _ (N : Network) (S : List ℕ) (p : Progress) where
  pub visit-spent : p.visits ≡ N.head.visits → record { members = p.best.items; best = total N - p.saved.0; visits = p.visits; spent = true } ≡ visited N S (found_in N p)
  unfolding visit
  visit-spent e = sym (on-true _ _ (eq-eqb _ _ e))

  -- a set that saves so much
  module _ (k : Counted N p) (n : p.visits ≡ N.head.visits → ⊥) (saved : ℕ) (s : saved + set_total N S ≡ total N) where
    is : total N - saved ≡ set_total N S
    is = omega (arith, s)

    pub visit-better : (M : List ℕ) → M ≡ S → ltb p.saved.0 saved ≡ true
        → record { members = M; best = total N - saved; visits = p.visits + 1; spent = p.spent } ≡ visited N S (found_in N p)
    unfolding visit
    visit-better M m l =
        (λ i. record { members = m i; best = is i; visits = add-one p.visits i; spent = p.spent })
        ∙ sym (on-false _ _ (ne_eqb _ _ n) ∙ on-true _ _ (lt-ltb (set_total N S) (total N - p.saved.0) (omega (arith, s, k.saved, ltb-true p.saved.0 saved l))))

    pub visit-other : ltb p.saved.0 saved ≡ false
        → record { members = p.best.items; best = total N - p.saved.0; visits = p.visits + 1; spent = p.spent } ≡ visited N S (found_in N p)
    unfolding visit
    visit-other l =
        (λ i. record { members = p.best.items; best = total N - p.saved.0; visits = add-one p.visits i; spent = p.spent })
        ∙ sym (on-false _ _ (ne_eqb _ _ n) ∙ on-false _ _ (le-ltb (set_total N S) (total N - p.saved.0) (omega (arith, s, k.saved, ltb-false p.saved.0 saved l))))
