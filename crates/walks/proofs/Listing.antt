-- The sets that a test keeps of `sets_up_to`, each once where the places rise.
use Rattle.std.specs.Prelude.{Bool, ℕ}
use Rattle.std.proofs.Math.Path.{refl}
use Rattle.std.proofs.Common.{sym, subst}
use mathlib.Core.HLevel.{⊥_prop}
use Rattle.std.proofs.Math.Logic.{∥∥₁_elim}
use mathlib.Core.List.{List, [], ◌∷◌, Sublistᴰ}
use mathlib.Core.List.Pairwise
use mathlib.Core.List.{Nodup}
use Rattle.model.specs.Lists.{keep}
use Rattle.model.specs.Sets.{sets_up_to}
use Rattle.model.specs.Demand.{Before}
use Rattle.walks.specs.Order.{Rising, Ordered, before-irrefl}
use Rattle.walks.specs.Runs.{on_both}
use Rattle.walks.proofs.Order.{sets-ordered}

module _ {A : Type 0} (test : A → Bool) where
  keep_some : (xs : List A) → Sublistᴰ (keep test xs) xs
  unfolding keep
  keep_some [] = Sublistᴰ.slnil
  keep_some (x ∷ xs) =
      on_both (λ l. Sublistᴰ l (x ∷ xs)) (test x) (Sublistᴰ.cons-cons refl (keep_some xs)) (Sublistᴰ.cons (keep_some xs))

-- a list in order has no set twice
ordered-once : (l : List (List ℕ)) → Ordered l → Nodup l
ordered-once [] o = Pairwise.nil
ordered-once (S ∷ l) o =
    Pairwise.cons (λ T m e. ∥∥₁_elim m ⊥_prop (λ d. before-irrefl S (subst (Before S) (sym e) (o.0 T d)))) (ordered-once l o.1)

module _ (is_allowed : List ℕ → Bool) (most : ℕ) (places : List ℕ) where
  pub kept-once : Rising places → Nodup (keep is_allowed (sets_up_to most places))
  kept-once r = Pairwise.sublistᴰ (keep_some is_allowed (sets_up_to most places)) (ordered-once (sets_up_to most places) (sets-ordered most places r))
