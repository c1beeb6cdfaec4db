-- The sets that a test keeps of `sets_up_to`: each set of the places that passes it, once.
use Rattle.std.specs.Prelude.{◌≡◌, Bool, ◌↔◌, ℕ, ◌≤◌, length}
use Rattle.std.proofs.Math.Path.{refl, ap}
use Rattle.std.proofs.Common.{◌∙◌}
use Rattle.std.proofs.Math.Bool.{true, false}
use Rattle.std.proofs.Math.Logic.{⊎_elim}
use mathlib.Core.List.{List, [], ◌∷◌}
use mathlib.Core.List.Memᴰ
use mathlib.Core.List.{Memᴰ}
use Rattle.model.specs.Lists.{keep}
use Rattle.model.specs.Sets.{sets_up_to}
use Rattle.walks.specs.Sets.{sets-are}
use Rattle.walks.specs.Claims.{Fine}
use Rattle.walks.specs.Runs.{on_both}

module _ {A : Type 0} (test : A → Bool) where
  -- the kept elements pass the test
  keep-passes : {x : A} (xs : List A) → Memᴰ x (keep test xs) → Memᴰ x xs × (test x ≡ true)
  unfolding keep
  keep-passes [] m = absurd (Memᴰ.not-nil m)
  keep-passes {x} (y ∷ ys) m = go (λ n. let i = keep-passes ys n in (Memᴰ.tail i.0, i.1)) (test y) refl m
    where
      go : (Memᴰ x (keep test ys) → Memᴰ x (y ∷ ys) × (test x ≡ true)) → (b : Bool) → test y ≡ b
          → Memᴰ x (elim b as (λ _. List A) [ true ↦ y ∷ keep test ys | false ↦ keep test ys ])
          → Memᴰ x (y ∷ ys) × (test x ≡ true)
      go later true e n = ⊎_elim (λ q. (Memᴰ.head q, ap test q ∙ e)) later (Memᴰ.cases_cons n)
      go later false e n = later n

  -- an element that passes the test is kept
  passes_kept : {x : A} (xs : List A) → test x ≡ true → Memᴰ x xs → Memᴰ x (keep test xs)
  unfolding keep
  passes_kept [] e m = absurd (Memᴰ.not-nil m)
  passes_kept {x} (y ∷ ys) e m =
      ⊎_elim
      (λ q. rw (← q, e, keep) (Memᴰ.head q))
      (λ n. on_both (λ l. Memᴰ x l) (test y) (Memᴰ.tail (passes_kept ys e n)) (passes_kept ys e n))
      (Memᴰ.cases_cons m)

module _ (is_allowed : List ℕ → Bool) (most : ℕ) (places : List ℕ) where
  pub kept-are : ((S : List ℕ) → is_allowed S ≡ true → length S ≤ most)
      → (S : List ℕ) → Memᴰ S (keep is_allowed (sets_up_to most places)) ↔ Fine is_allowed places S
  kept-are few S = (
    (λ m. let i = keep-passes is_allowed (sets_up_to most places) m in (((sets-are most places S).0 i.0).0, i.1)),
    (λ x. passes_kept is_allowed (sets_up_to most places) x.1 ((sets-are most places S).1 (x.0, few S x.1))),
  )
