-- Where a separator stands first.
use mathlib.Core.Path.{◌≡◌, refl, sym, subst}
use mathlib.Core.Bool.{Bool, true, false, cond, not}
use mathlib.Core.List.{List, [], ◌∷◌}
use Prim.Native.Nat.{ℕ, suc, ◌+◌, ◌≤◌, ◌<◌}
use native.Mathlib.Omega.{arith}
use lib.Dec.{eqb, ltb}
use lib.ListN.{length}
use borrow.Author.Tests.{ltb-true, ltb-false}
use Rattle.std.specs.Prelude.{Option, None, Some, MatchOption}
use Rattle.std.specs.List.{position_or_len}
use Rattle.fields.specs.Fields.{up_to}

pub up_to-position : (separator : ℕ) (bs : List ℕ) → position_or_len (λ b. eqb b separator) bs ≡ up_to separator bs
unfolding up_to
up_to-position separator [] = refl
up_to-position separator (b ∷ bs) = go (eqb b separator) (up_to-position separator bs)
  where
    go : (t : Bool) → position_or_len (λ x. eqb x separator) bs ≡ up_to separator bs
        → ◌≡◌ {A = ℕ} (cond (not t) (1 + position_or_len (λ x. eqb x separator) bs) 0) (elim t [ true ↦ 0 | false ↦ suc (up_to separator bs) ])
    go true e = refl
    go false e = omega (arith, e)

pub up_to-short : (separator : ℕ) (bs : List ℕ) → up_to separator bs ≤ length bs
unfolding up_to
up_to-short separator [] = omega arith
up_to-short separator (b ∷ bs) = go (eqb b separator) (up_to-short separator bs)
  where
    go : (t : Bool) → up_to separator bs ≤ length bs → elim t as (λ x. ℕ) [ true ↦ 0 | false ↦ suc (up_to separator bs) ] ≤ length (b ∷ bs)
    go true h = omega arith
    go false h = omega arith

-- where a search finds the separator, if it does
pub found-first : (separator : ℕ) (bs : List ℕ) (r : Option ℕ)
    → r ≡ cond (ltb (position_or_len (λ b. eqb b separator) bs) (length bs)) (Some (position_or_len (λ b. eqb b separator) bs)) None
    → MatchOption r (up_to separator bs ≡ length bs) (λ at. (at ≡ up_to separator bs) × (at < length bs))
found-first separator bs r e = subst Found (sym e) (go (ltb (position_or_len (λ b. eqb b separator) bs) (length bs)) refl)
  where
    Found : Option ℕ → Type 0
    Found r = MatchOption r (up_to separator bs ≡ length bs) (λ at. (at ≡ up_to separator bs) × (at < length bs))

    go : (t : Bool) → ltb (position_or_len (λ b. eqb b separator) bs) (length bs) ≡ t → Found (cond t (Some (position_or_len (λ b. eqb b separator) bs)) None)
    go true q = (up_to-position separator bs, ltb-true _ _ q)
    go false q = omega (arith, ltb-false _ _ q, up_to-position separator bs, up_to-short separator bs)
