-- The lists of a network, seen through what the definitions have of each element.
use Rattle.std.specs.Prelude.{◌≡◌, ℕ, zero, suc, ◌-◌, ◌≤◌, ◌<◌, List, [], ◌∷◌, map, length, get_or, set, slice_index_or, slice_set}
use Rattle.std.specs.List.{refill}
use Rattle.std.proofs.Common.{refl, ap, ◌∙◌, sub-one, arith}
use Rattle.std.proofs.lemmas.Grind.{common_steps}
use Rattle.std.proofs.lemmas.List.{map-set}
use Rattle.model.specs.Lists.{numbered, renumbered}

module _ {A B : Type 0} (f : A → B) where
  get_or-held : (xs : List A) (k : ℕ) (e : A) (d : B) → k < length (map f xs) → f (slice_index_or xs k e) ≡ get_or (map f xs) k d
  get_or-held [] k e d h = absurd (omega arith)
  get_or-held (x ∷ xs) zero e d h = refl
  get_or-held (x ∷ xs) (suc k) e d h = get_or-held xs k e d (omega arith)

  -- element number k, counted from 1
  pub numbered-held : (xs : List A) (k : ℕ) (e : A) (d : B) → 1 ≤ k → k ≤ length (map f xs) → f (slice_index_or xs (k - 1) e) ≡ numbered d (map f xs) k
  unfolding numbered
  numbered-held xs zero e d l h = absurd (omega arith)
  numbered-held xs (suc k) e d l h = ap (λ i. f (slice_index_or xs i e)) (sub-one (suc k)) ∙ get_or-held xs k e d (omega arith)

-- element number k written
module _ {A B : Type 0} (f : A → B) where
  refill-set : (xs : List A) (k : ℕ) (x : A) → refill (length xs) xs (slice_set xs k x) ≡ set xs k x
  refill-set xs k x = grind (arith, common_steps)

  pub renumbered-held : (xs ys : List A) (k : ℕ) (x : A) → ys ≡ xs → 1 ≤ k → map f (refill (length xs) xs (slice_set ys (k - 1) x)) ≡ renumbered (map f xs) k (f x)
  unfolding renumbered
  renumbered-held xs ys zero x e h = absurd (omega arith)
  renumbered-held xs ys (suc k) x e h =
      ap (λ ws. map f (refill (length xs) xs (slice_set ws (suc k - 1) x))) e
      ∙ ap (λ i. map f (refill (length xs) xs (slice_set xs i x))) (sub-one (suc k))
      ∙ ap (map f) (refill-set xs k x)
      ∙ map-set f xs k x
