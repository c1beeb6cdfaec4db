-- The list of a place, place after place, and the lists one after another.
use Prim.Native.Nat.{ℕ, ◌+◌, ◌-◌, ◌≤◌, ◌<◌}
use mathlib.Core.Path.{◌≡◌, refl, sym, ap, ◌∙◌, subst}
use mathlib.Core.Bool.{true, false, true≢false}
use mathlib.Core.Logic.{⊎_elim}
use mathlib.Core.List.{List, [], ◌∷◌, ◌++◌, map}
use native.Mathlib.Nat.{eq-or-lt_of_le}
use native.Mathlib.Omega.{arith}
use lib.ListN.{length, get_or, length-append, length-map, get_or-append}
use lib.Seq.{get_or-append_seam}
use Rattle.std.proofs.lemmas.List.{map-append}
use Rattle.relations.specs.declared.Relation.{Relation}
use Rattle.relations.specs.declared.Relation.TheVariants.{Apart, Behind, Above}
use Rattle.relations.specs.Lists.{is_related, relation_at, Listed}

pub not-related : (r : Relation) → is_related r ≡ false → r ≡ Apart
not-related Apart h = refl
not-related Behind h = absurd (true≢false h)
not-related Above h = absurd (true≢false h)

pub related : (r : Relation) → is_related r ≡ true → r ≡ Apart → ⊥
related r h e = true≢false (sym h ∙ ap is_related e)

-- the places after q and before p
module _ {between : List Relation} {q : ℕ} where
  pub listed-none : Listed between q (q + 1) []
  listed-none = record {
    row = record { few = omega arith; later = λ i a. absurd (omega arith); rising = λ i j h b. absurd (omega arith) };
    only = λ i a e. absurd (omega arith);
    all = λ r a b n. absurd (omega arith);
  }

  module _ {p : ℕ} {ps : List ℕ} (x : Listed between q p ps) (l : q < p) where
    -- one that q is not related to
    pub listed-past : relation_at between q p ≡ Apart → Listed between q (p + 1) ps
    listed-past z = record {
      row = record { few = omega (arith, x.row.few); later = λ i a. ((x.row.later i a).0, omega (arith, (x.row.later i a).1)); rising = x.row.rising };
      only = x.only;
      all = λ r a b n. ⊎_elim (λ e. absurd (n (ap (relation_at between q) e ∙ z))) (λ h. x.all r a h n) (eq-or-lt_of_le {n = r} {m = p} (omega arith));
    }

    -- one that it is related to
    module _ (r : relation_at between q p ≡ Apart → ⊥) where
      abbrev new : List ℕ
      new = ps ++ (p ∷ [])

      long : length new ≡ length ps + 1
      long = length-append ps (p ∷ [])

      last : get_or new (length ps) 0 ≡ p
      last = get_or-append_seam ps p [] 0

      same : (i : ℕ) → i < length ps → get_or new i 0 ≡ get_or ps i 0
      same i b = get_or-append ps (p ∷ []) 0 i b

      pub listed_more : Listed between q (p + 1) new
      listed_more = record {
        row = record {
          few = omega (arith, x.row.few, long);
          later = λ i a. ⊎_elim
              (λ e. let s = ap (λ j. get_or new j 0) e ∙ last in (omega arith, omega arith))
              (λ b. let s = same i b in let k = x.row.later i b in (omega arith, omega arith))
              (eq-or-lt_of_le {n = i} {m = length ps} (omega (arith, long)));
          rising = λ i j h b. ⊎_elim
              (λ e. omega (arith, ap (λ j. get_or new j 0) e ∙ last, same i (omega arith), x.row.later i (omega arith)))
              (λ b. omega (arith, same i (omega arith), same j b, x.row.rising i j h b))
              (eq-or-lt_of_le {n = j} {m = length ps} (omega (arith, long)));
        };
        only = λ i a z. ⊎_elim
            (λ e. r (ap (relation_at between q) (sym (ap (λ j. get_or new j 0) e ∙ last)) ∙ z))
            (λ b. x.only i b (ap (relation_at between q) (sym (same i b)) ∙ z))
            (eq-or-lt_of_le {n = i} {m = length ps} (omega (arith, long)));
        all = λ s a b n. ⊎_elim
            (λ e. record { at = length ps; high = omega (arith, long); is = last ∙ sym e })
            (λ h. let k = x.all s a h n in record { at = k.at; high = omega (arith, k.high, long); is = same k.at k.high ∙ k.is })
            (eq-or-lt_of_le {n = s} {m = p} (omega arith));
      }

-- the lists of the places before q
abbrev pub Rows : List Relation → List (List ℕ) → ℕ → ℕ → Type 0
Rows between rows count q = (r : ℕ) → 1 ≤ r → r < q → Listed between r (count + 1) (get_or rows (r - 1) [])

pub rows_more : (between : List Relation) (rows : List (List ℕ)) (count q : ℕ) (row : List ℕ) → length rows + 1 ≡ q → Listed between q (count + 1) row → Rows between rows count q
    → Rows between (rows ++ (row ∷ [])) count (q + 1)
rows_more between rows count q row e x old r a b = ⊎_elim
    (λ s. subst (λ k. Listed between k (count + 1) (get_or (rows ++ (row ∷ [])) (k - 1) [])) (sym s)
    (subst (Listed between q (count + 1)) (sym (ap (λ j. get_or (rows ++ (row ∷ [])) j []) {x = q - 1} {y = length rows} (omega arith) ∙ get_or-append_seam rows row [] [])) x))
    (λ h. subst (Listed between r (count + 1)) (sym (get_or-append rows (row ∷ []) [] (r - 1) (omega arith))) (old r a h))
    (eq-or-lt_of_le {n = r} {m = q} (omega arith))

-- one list more, of lists that are kept as values of A
pub rows_next : {A : Type 0} (f : A → List ℕ) (between : List Relation) (xs ys : List A) (x : A) (count q : ℕ) → ys ≡ xs ++ (x ∷ []) → length xs + 1 ≡ q → Listed between q (count + 1) (f x)
    → Rows between (map f xs) count q → Rows between (map f ys) count (q + 1)
rows_next f between xs ys x count q e l h old =
    subst (λ rows. Rows between rows count (q + 1)) (sym (ap (map f) e ∙ map-append f xs (x ∷ [])))
    (rows_more between (map f xs) count q (f x) (omega (arith, length-map xs f)) h old)
