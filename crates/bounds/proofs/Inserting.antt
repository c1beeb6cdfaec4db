-- Inserting into a list in falling order: before the first number that is no greater.
use Prim.Native.Nat.{ℕ, zero, suc, ◌+◌, ◌≤◌}
use mathlib.Core.Path.{◌≡◌, refl, ap, ◌∙◌}
use mathlib.Core.Bool.{Bool, true, false, cond, not}
use mathlib.Core.List.{List, [], ◌∷◌, ◌++◌}
use native.Mathlib.Omega.{arith}
use lib.Dec.{leb, ltb}
use lib.ListN.{take, drop, length}
use borrow.Author.Tests.{ltb-false}
use Rattle.std.proofs.Common.{Option, Some, None}
use Rattle.std.proofs.lemmas.List.Sums.{prefix_len-le-length}
use Rattle.std.specs.List.{position_or_len}
use Rattle.std.specs.Option.{unwrap_or}
use Rattle.model.specs.Walk.{insert}

-- where a number is inserted
abbrev place : ℕ → List ℕ → ℕ
place x ys = position_or_len (λ y. leb y x) ys

-- it is the position that is found, or the end
place_is : (x : ℕ) (ys : List ℕ) → unwrap_or (cond (ltb (place x ys) (length ys)) (Some (place x ys)) None) (length ys) ≡ place x ys
place_is x ys = go (ltb (place x ys) (length ys)) refl
  where
    go : (t : Bool) → ltb (place x ys) (length ys) ≡ t → unwrap_or (cond t (Some (place x ys)) None) (length ys) ≡ place x ys
    go true e = refl
    go false e = omega (arith, ltb-false (place x ys) (length ys) e, prefix_len-le-length (λ y. not (leb y x)) ys)

inserted_there : (x : ℕ) (ys : List ℕ) → take (place x ys) ys ++ x ∷ drop (place x ys) ys ≡ insert x ys
unfolding insert
inserted_there x [] = refl
inserted_there x (y ∷ ys) = go (leb y x) refl (inserted_there x ys)
  where
    go : (t : Bool) → leb y x ≡ t → take (place x ys) ys ++ x ∷ drop (place x ys) ys ≡ insert x ys → take (place x (y ∷ ys)) (y ∷ ys) ++ x ∷ drop (place x (y ∷ ys)) (y ∷ ys) ≡ insert x (y ∷ ys)
    go true e ih = rw (e, insert) refl
    go false e ih =
        let at : place x (y ∷ ys) ≡ suc (place x ys) = ap (λ t. cond (not t) (1 + place x ys) 0) e ∙ omega arith in
        ap (λ i. take i (y ∷ ys) ++ x ∷ drop i (y ∷ ys)) at ∙ ap (λ zs. y ∷ zs) ih ∙ rw (e, insert) refl

pub inserted : (x : ℕ) (ys : List ℕ) {found : Option ℕ} {at : ℕ} → found ≡ cond (ltb (place x ys) (length ys)) (Some (place x ys)) None → at ≡ unwrap_or found (length ys) → take at ys ++ x ∷ drop at ys ≡ insert x ys
inserted x ys f e = ap (λ i. take i ys ++ x ∷ drop i ys) (e ∙ ap (λ r. unwrap_or r (length ys)) f ∙ place_is x ys) ∙ inserted_there x ys

-- it is inserted within the list or behind it
pub within : (x : ℕ) (ys : List ℕ) {found : Option ℕ} {at : ℕ} → found ≡ cond (ltb (place x ys) (length ys)) (Some (place x ys)) None → at ≡ unwrap_or found (length ys) → at ≤ length ys
within x ys f e = omega (arith, e ∙ ap (λ r. unwrap_or r (length ys)) f ∙ place_is x ys, prefix_len-le-length (λ y. not (leb y x)) ys)

-- behind all numbers it is the last
pub behind_all : (xs : List ℕ) (i x : ℕ) → i ≡ length xs → take i xs ++ x ∷ drop i xs ≡ xs ++ x ∷ []
behind_all [] zero x e = refl
behind_all [] (suc i) x e = absurd (omega (arith, e))
behind_all (y ∷ ys) zero x e = absurd (omega (arith, e))
behind_all (y ∷ ys) (suc i) x e = ap (λ zs. y ∷ zs) (behind_all ys i x (omega (arith, e)))
