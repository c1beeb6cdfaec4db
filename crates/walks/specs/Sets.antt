-- Which sets `extensions` and `sets_up_to` list.
use Rattle.std.specs.Prelude.{◌≡◌, refl, ◌↔◌, List, [], ◌∷◌, ◌++◌, ℕ, zero, suc, ◌≤◌, length}
use Rattle.std.proofs.Common.{sym, ap, ◌∙◌, ⊎_elim, zero-le, suc-le-suc, arith}
use mathlib.Core.List.Sublistᴰ
use mathlib.Core.List.{Sublistᴰ, cons≢nil}
use mathlib.Core.List.Memᴰ
use mathlib.Core.List.{Memᴰ}
use Rattle.std.proofs.Math.Seq.{append_snoc}
use Rattle.model.specs.Sets.{extensions, sets_up_to}

-- `T` extends `S` by one to `r` of the places `later`
pub record Extends (r : ℕ) (S later T : List ℕ) : Type 0 where
  pub next : ℕ
  pub rest : List ℕ
  pub joined : T ≡ S ++ (next ∷ rest)
  pub within : Sublistᴰ (next ∷ rest) later
  pub few : length (next ∷ rest) ≤ r

-- a listed extension is one
pub extensions-extend : (r : ℕ) (S later T : List ℕ) → Memᴰ T (extensions r S later) → Extends r S later T
unfolding extensions
extensions-extend r S [] T m = absurd (Memᴰ.not-nil m)
extensions-extend zero S (q ∷ later) T m = absurd (Memᴰ.not-nil m)
extensions-extend (suc r) S (q ∷ later) T m =
    ⊎_elim alone
    (λ n. ⊎_elim
    (λ o. own (extensions-extend r (S ++ (q ∷ [])) later T o))
    (λ o. other (extensions-extend (suc r) S later T o))
    (Memᴰ.append_cases (extensions r (S ++ (q ∷ [])) later) n))
    (Memᴰ.cases_cons m)
  where
    alone : T ≡ S ++ (q ∷ []) → Extends (suc r) S (q ∷ later) T
    alone e = record { next = q; rest = []; joined = e; within = Sublistᴰ.cons-cons refl (Sublistᴰ.nil-sublist later); few = suc-le-suc zero-le }

    own : Extends r (S ++ (q ∷ [])) later T → Extends (suc r) S (q ∷ later) T
    own x = record {
      next = q;
      rest = x.next ∷ x.rest;
      joined = x.joined ∙ append_snoc S q (x.next ∷ x.rest);
      within = Sublistᴰ.cons-cons refl x.within;
      few = suc-le-suc x.few;
    }

    other : Extends (suc r) S later T → Extends (suc r) S (q ∷ later) T
    other x = record { next = x.next; rest = x.rest; joined = x.joined; within = Sublistᴰ.cons x.within; few = x.few }

-- an extension is listed
extends-listed : (r : ℕ) (S later : List ℕ) (p : ℕ) (U : List ℕ) → Sublistᴰ (p ∷ U) later → length (p ∷ U) ≤ r → Memᴰ (S ++ (p ∷ U)) (extensions r S later)
unfolding extensions
extends-listed r S [] p U w h = absurd (cons≢nil (Sublistᴰ.eq-nil w))
extends-listed zero S (q ∷ later) p U w h = absurd (omega arith)
extends-listed (suc r) S (q ∷ later) p [] w h =
    ⊎_elim
    (λ x. Memᴰ.tail (Memᴰ.append_right (extensions r (S ++ (q ∷ [])) later) (extends-listed (suc r) S later p [] x h)))
    (λ x. Memᴰ.head (ap (λ a. S ++ (a ∷ [])) x.0))
    (Sublistᴰ.cases_cons-cons w)
extends-listed (suc r) S (q ∷ later) p (o ∷ U) w h =
    ⊎_elim
    (λ x. Memᴰ.tail (Memᴰ.append_right (extensions r (S ++ (q ∷ [])) later) (extends-listed (suc r) S later p (o ∷ U) x h)))
    (λ x. Memᴰ.tail (Memᴰ.append_left (extensions (suc r) S later)
    (Memᴰ.cast (ap (λ a. S ++ (a ∷ o ∷ U)) x.0 ∙ sym (append_snoc S q (o ∷ U))) (extends-listed r (S ++ (q ∷ [])) later o U x.1 (omega arith)))))
    (Sublistᴰ.cases_cons-cons w)

-- The sets of at most `most` places are listed, and no other.
pub sets-are : (most : ℕ) (places S : List ℕ) → Memᴰ S (sets_up_to most places) ↔ (Sublistᴰ S places × (length S ≤ most))
unfolding sets_up_to
sets-are most places S = (there, back S)
  where
    there : Memᴰ S (sets_up_to most places) → Sublistᴰ S places × (length S ≤ most)
    there m =
        ⊎_elim
        (λ e. rw e (Sublistᴰ.nil-sublist places, zero-le))
        (λ n. let x = extensions-extend most [] places S n in rw x.joined (x.within, x.few))
        (Memᴰ.cases_cons m)

    back : (T : List ℕ) → Sublistᴰ T places × (length T ≤ most) → Memᴰ T (sets_up_to most places)
    back [] x = Memᴰ.head refl
    back (p ∷ U) x = Memᴰ.tail (extends-listed most [] places p U x.0 x.1)
