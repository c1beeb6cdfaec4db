-- The number of a field, digit by digit.
use mathlib.Core.Path.{◌≡◌, refl, sym, ap, ◌∙◌}
use mathlib.Core.Logic.{◌⊎◌, ⊎_elim}
use mathlib.Core.Bool.{true, false, and-false}
use Rattle.std.specs.Prelude.{Option, None, Some}
use mathlib.Core.List.{List, [], ◌∷◌}
use Prim.Native.Nat.{ℕ, ◌+◌, ◌*◌, ◌-◌, ◌^◌, ◌≤◌, ◌<◌}
use native.Mathlib.Omega.{arith}
use native.Mathlib.Numerals.{add-one}
use native.Mathlib.Nat.{pow-suc, pow-le-pow_right}
use lib.Dec.{leb}
use lib.ListN.{length, get_or, drop, drop_of_length-le}
use lib.Seq.{drop-cons}
use borrow.Author.Tests.{le-leb, lt-leb, eq-eqb, ne_eqb}
use Rattle.model.specs.Lists.{all}
use Rattle.model.specs.Format.{is_digit, no_leading_zero, value_from, number_of}

-- the number that the digits of `s` make behind those that made `v`; none where a byte is no digit
unfoldable pub digits_from : ℕ → List ℕ → Option ℕ
unfolding all value_from
digits_from v s = elim (all (λ b. is_digit b) s) [ true ↦ Some (value_from v s) | false ↦ None ]

pub empty : (s : List ℕ) → length s ≡ 0 → None ≡ number_of s
unfolding number_of no_leading_zero
empty [] h = refl
empty (x ∷ s) h = absurd (omega arith)

pub long : (s : List ℕ) → 10 < length s → None ≡ number_of s
unfolding number_of
long s h = rw (lt-leb (length s) 10 h, and-false (no_leading_zero s), number_of)

pub zero-first : (s : List ℕ) → 1 < length s → get_or s 0 0 ≡ 48 → None ≡ number_of s
unfolding number_of no_leading_zero
zero-first [] h e = absurd (omega arith)
zero-first (d ∷ []) h e = absurd (omega arith)
zero-first (d ∷ x ∷ s) h e = rw (eq-eqb d 48 e, number_of)

pub starts : (s : List ℕ) → (length s ≡ 0 → ⊥) → length s ≤ 10 → (get_or s 0 0 ≡ 48 → ⊥) ⊎ (length s ≤ 1) → digits_from 0 s ≡ number_of s
unfolding digits_from number_of no_leading_zero
starts [] n h k = absurd (n refl)
starts (d ∷ []) n h k = refl
starts (d ∷ x ∷ s) n h k = ⊎_elim (λ w. rw (ne_eqb d 48 w, le-leb (length (d ∷ x ∷ s)) 10 h, number_of)) (λ w. absurd (omega arith)) k

digit : (v d : ℕ) (s : List ℕ) → 48 ≤ d → d ≤ 57 → digits_from v (d ∷ s) ≡ digits_from (v * 10 + (d - 48)) s
unfolding digits_from all value_from
digit v d s k l = rw (le-leb 48 d k, le-leb d 57 l, digits_from)

module _ (s : List ℕ) (v i : ℕ) where
  pub low : i < length s → get_or s i 0 < 48 → digits_from v (drop i s) ≡ None
  unfolding digits_from all
  low h k = rw (drop-cons s i 0 h, lt-leb 48 (get_or s i 0) k, digits_from)

  pub high : i < length s → 57 < get_or s i 0 → digits_from v (drop i s) ≡ None
  unfolding digits_from all
  high h k = rw (drop-cons s i 0 h, lt-leb (get_or s i 0) 57 k, and-false (leb 48 (get_or s i 0)), digits_from)

  pub more : i < length s → 48 ≤ get_or s i 0 → get_or s i 0 ≤ 57 → digits_from v (drop i s) ≡ digits_from (v * 10 + (get_or s i 0 - 48)) (drop (i + 1) s)
  more h k l = ap (digits_from v) (drop-cons s i 0 h) ∙ digit v (get_or s i 0) _ k l ∙ ap (λ (j : ℕ). digits_from (v * 10 + (get_or s i 0 - 48)) (drop j s)) (sym (add-one i))

  pub ended : length s ≤ i → digits_from v (drop i s) ≡ Some v
  unfolding digits_from all value_from
  ended h = rw (drop_of_length-le s {i = i} h)

pub tens : (i : ℕ) → 10 ^ (i + 1) ≡ 10 ^ i * 10
tens i = rw add-one (pow-suc 10 i)

pub below-ten-digits : (i : ℕ) → i ≤ 9 → 10 ^ i ≤ 10 ^ 9
below-ten-digits i h = pow-le-pow_right {n = 10} (omega arith) h
