-- The form of a record, field by field.
use mathlib.Core.Path.{◌≡◌, refl, sym, ap, ap₂, ◌∙◌}
use mathlib.Core.Bool.{Bool, true, false, cond, not, ◌&&◌}
use mathlib.Core.List.{List, [], ◌∷◌, ◌++◌, append_assoc, append-nil}
use Prim.Native.Nat.{ℕ, ◌+◌, ◌≤◌}
use native.Mathlib.Omega.{arith}
use lib.Dec.{eqb}
use lib.Pointwise.{pointwise}
use lib.ListN.{length, length-append}
use borrow.Author.Tests.{eq-eqb, ne_eqb}
use Rattle.std.specs.Prelude.{Option, None, Some}
use Rattle.std.specs.List.{slice_split}
use Rattle.std.proofs.lemmas.Iterator.{YieldsList}
use Rattle.model.specs.Format.{comma, on_first_field, fields_of, number_of, with_number, numbers_of, after_letter}

-- the fields are the parts between the commas
pub fields-split : (bs : List ℕ) → slice_split (λ b. eqb b comma) bs ≡ fields_of bs
unfolding fields_of on_first_field
fields-split [] = refl
fields-split (b ∷ bs) = go (eqb b comma) (slice_split (λ x. eqb x comma) bs) (fields_of bs) (fields-split bs)
  where
    go : (t : Bool) (xs ys : List (List ℕ)) → xs ≡ ys
        → cond t ([] ∷ xs) (Rattle.std.specs.List.onto_first b xs) ≡ (elim t as (λ x. List (List ℕ)) [ true ↦ [] ∷ ys | false ↦ on_first_field b ys ])
    go true xs ys e = ap (λ l. [] ∷ l) e
    go false xs ys e = same xs ∙ ap (on_first_field b) e
      where
        same : (l : List (List ℕ)) → Rattle.std.specs.List.onto_first b l ≡ on_first_field b l
        same [] = refl
        same (f ∷ fs) = refl

-- numbers read before, and those that follow
unfoldable pub joined : List ℕ → Option (List ℕ) → Option (List ℕ)
joined ns None = None
joined ns (Some ms) = Some (ns ++ ms)

-- what the numbers of a record are, of which there must be `count`, where some are read and these fields follow
unfoldable pub reading : (count : ℕ) (read : List ℕ) → List (List ℕ) → Option (List ℕ)
unfolding numbers_of joined
reading count ns fs = elim (eqb (length ns + length fs) count) [ true ↦ joined ns (numbers_of fs) | false ↦ None ]

-- ── the first field ──
-- none are read yet
unread : (count : ℕ) (fs : List (List ℕ)) → (elim (eqb (length fs) count) as (λ b. Option (List ℕ)) [ true ↦ numbers_of fs | false ↦ None ]) ≡ reading count [] fs
unfolding reading joined
unread count fs =
    ap₂ (λ (n : ℕ) (o : Option (List ℕ)). elim (eqb n count) as (λ b. Option (List ℕ)) [ true ↦ o | false ↦ None ]) {x = length fs} {y = 0 + length fs} (omega arith) (same (numbers_of fs))
  where
    same : (o : Option (List ℕ)) → o ≡ joined [] o
    same None = refl
    same (Some ns) = refl

-- the fields behind the first are read where that is just the letter
pub first_field : (letter count : ℕ) (f : List ℕ) (fs : List (List ℕ)) (t : Bool) → t ≡ not (pointwise eqb f (letter ∷ []))
    → after_letter letter count (f ∷ fs) ≡ (elim t [ true ↦ None | false ↦ reading count [] fs ])
unfolding after_letter
first_field letter count f fs t e = sym (ap (λ (b : Bool). elim b as (λ x. Option (List ℕ)) [ true ↦ None | false ↦ reading count [] fs ]) e ∙ go f)
  where
    one : (b : Bool) → ◌≡◌ {A = Option (List ℕ)} (elim (not (b && true)) [ true ↦ None | false ↦ reading count [] fs ]) (elim (b && eqb (length fs) count) [ true ↦ numbers_of fs | false ↦ None ])
    one true = sym (unread count fs)
    one false = refl

    two : (b : Bool) → ◌≡◌ {A = Option (List ℕ)} (elim (not (b && false)) [ true ↦ None | false ↦ reading count [] fs ]) None
    two true = refl
    two false = refl

    go : (f : List ℕ) → (elim (not (pointwise eqb f (letter ∷ []))) as (λ x. Option (List ℕ)) [ true ↦ None | false ↦ reading count [] fs ]) ≡ after_letter letter count (f ∷ fs)
    go [] = refl
    go (x ∷ []) = one (eqb x letter)
    go (x ∷ y ∷ f) = two (eqb x letter)

-- ── the fields behind it ──
module _ (count : ℕ) (ns : List ℕ) where
  pub complete : length ns ≡ count → reading count ns [] ≡ Some ns
  unfolding reading joined numbers_of
  complete e = rw (eq-eqb (length ns + 0) count (omega arith), reading) (ap Some (append-nil ns))

  pub incomplete : (length ns ≡ count → ⊥) → reading count ns [] ≡ None
  unfolding reading
  incomplete n = rw (ne_eqb (length ns + 0) count (λ e. n (omega arith)), reading)

  module _ (f : List ℕ) (fs : List (List ℕ)) where
    -- there are more fields than numbers
    pub too_many : count ≤ length ns → reading count ns (f ∷ fs) ≡ None
    unfolding reading
    too_many h = rw (ne_eqb (length ns + length (f ∷ fs)) count (λ e. omega arith), reading)

    pub bad-field : number_of f ≡ None → reading count ns (f ∷ fs) ≡ None
    unfolding reading numbers_of with_number joined
    bad-field e =
        ap (λ (o : Option ℕ). elim (eqb (length ns + length (f ∷ fs)) count) [ true ↦ joined ns (with_number o (numbers_of fs)) | false ↦ None ]) e
        ∙ go (eqb (length ns + length (f ∷ fs)) count)
      where
        go : (t : Bool) → ◌≡◌ {A = Option (List ℕ)} (elim t [ true ↦ None | false ↦ None ]) None
        go true = refl
        go false = refl

    pub next_field : (x : ℕ) → number_of f ≡ Some x → reading count ns (f ∷ fs) ≡ reading count (ns ++ x ∷ []) fs
    unfolding reading numbers_of joined with_number
    next_field x e =
        ap (λ (o : Option ℕ). elim (eqb (length ns + length (f ∷ fs)) count) [ true ↦ joined ns (with_number o (numbers_of fs)) | false ↦ None ]) e
        ∙ ap₂ (λ (n : ℕ) (o : Option (List ℕ)). elim (eqb n count) [ true ↦ o | false ↦ None ]) {x = length ns + length (f ∷ fs)} {y = length (ns ++ x ∷ []) + length fs}
        (omega (arith, length-append ns (x ∷ []))) (one_more (numbers_of fs))
      where
        one_more : (o : Option (List ℕ)) → joined ns (with_number (Some x) o) ≡ joined (ns ++ x ∷ []) o
        one_more None = refl
        one_more (Some ms) = ap Some (sym (append_assoc ns (x ∷ []) ms))

-- ── one field after the other ──
module _ {S A B : Type 0} {steps : S → Option A → S → Type 0} {v : A → B} {s : S} where
  -- what comes is the first of those that are left
  pub comes : {ys : List B} → YieldsList steps v s ys → (x : A) (t : S) → steps s (Some x) t → (rest : List B) × (ys ≡ v x ∷ rest) × YieldsList steps v t rest
  comes {ys = []} y x t k = absurd (y.runs x t k)
  comes {ys = z ∷ zs} y x t k = (zs, ap (λ w. w ∷ zs) (sym (y.runs.1 x t k).0), record { runs = (y.runs.1 x t k).1 })

  -- where nothing comes none is left
  pub no_more : {ys : List B} → YieldsList steps v s ys → (t : S) → steps s None t → ys ≡ []
  no_more {ys = []} y t k = refl
  no_more {ys = z ∷ zs} y t k = absurd (y.runs.0 t k)
