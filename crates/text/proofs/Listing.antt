-- The texts of a list's elements, one behind another at the start of a buffer.
use Prim.Native.Nat.{ℕ, zero, suc, ◌+◌, ◌-◌, ◌≤◌, ◌<◌}
use mathlib.Core.Path.{◌≡◌, refl, ap, ◌∙◌, subst}
use mathlib.Core.List.{List, ◌++◌, append-nil, flat_map}
use native.Mathlib.Numerals.{add-one}
use native.Mathlib.Omega.{arith}
use lib.ListN.{length, get_or, take, drop, length-append}
use lib.Seq.{take-suc, take_all}
use borrow.Rule.Slice.PartMut.{put_mid}
use Rattle.model.specs.Lists.{numbers}
use Rattle.model.specs.Network.{Network}
use Rattle.model.specs.Paths.{line_numbers}
use Rattle.theory.specs.Sizes.{numbers-length}
use Rattle.text.specs.Over.{over, Written}
use Rattle.text.proofs.Over.{over-length, over-part}
use Rattle.std.proofs.lemmas.Grind.{flat_map-append}

-- where a text is written, so is an equal text
pub same_text : (s t b d : List ℕ) (n : ℕ) → s ≡ t → Written s b d n → Written t b d n
same_text s t b d n e p = (p.0 ∙ ap length e, p.1 ∙ ap (λ (l : List ℕ). over l b) e)

-- a text behind another
pub behind : (s t b w d : List ℕ) (q n : ℕ) → Written s b w q → Written t (take (length w - q) (drop q w)) d n
    → Written (s ++ t) b (put_mid q (length w - q) w d) (q + n)
behind s t b w d q n p r = (omega (arith, p.0, r.0, length-append s t), over-part s b w q p.1 p.0 t d r.1)

-- w is the list b with the texts of the first i elements, `at` bytes, over its start
pub record Listed (f : ℕ → List ℕ) (xs b w : List ℕ) (at i : ℕ) : Type 0 where
  pub long : length w ≡ length b
  pub here : at ≡ length (flat_map f (take i xs))
  pub is : w ≡ over (flat_map f (take i xs)) b

pub listed_at : {f : ℕ → List ℕ} {xs b w : List ℕ} {at i j : ℕ} → i ≡ j → Listed f xs b w at i → Listed f xs b w at j
listed_at {f} {xs} {b} {w} {at} e g = subst (Listed f xs b w at) e g

module _ (f : ℕ → List ℕ) (xs b : List ℕ) where
  pub listed-none : Listed f xs b b 0 0
  unfolding flat_map
  listed-none = record { long = refl; here = refl; is = refl }

  text-more : (i : ℕ) → i < length xs → flat_map f (take i xs) ++ f (get_or xs i 0) ≡ flat_map f (take (i + 1) xs)
  unfolding flat_map
  text-more i h = rw (add-one, take-suc xs i 0, flat_map-append f, append-nil)

  -- the text of one element more, over the start of the part behind the others
  pub listed_more : (w d : List ℕ) (at i x n : ℕ) → i < length xs → x ≡ get_or xs i 0 → at + n ≤ length b → Listed f xs b w at i
      → Written (f x) (take (length w - at) (drop at w)) d n
      → Listed f xs b (put_mid at (length w - at) w d) (at + n) (i + 1)
  listed_more w d at i x n h ex room g p =
      let s : List ℕ = flat_map f (take i xs) in
      let more : s ++ f x ≡ flat_map f (take (i + 1) xs) = ap (λ (k : ℕ). s ++ f k) ex ∙ text-more i h in
      let here2 : at + n ≡ length (flat_map f (take (i + 1) xs)) = omega (arith, g.here, p.0, length-append s (f x), ap length more) in
      let is2 = over-part s b w at g.is g.here (f x) d p.1 ∙ ap (λ (l : List ℕ). over l b) more in
      record { long = over-length (flat_map f (take (i + 1) xs)) b _ (at + n) is2 here2 room; here = here2; is = is2 }

  pub listed-all : (w : List ℕ) (at i : ℕ) → length xs ≤ i → Listed f xs b w at i → Written (flat_map f xs) b w at
  listed-all w at i h g =
      let e : take i xs ≡ xs = take_all i xs h in
      (g.here ∙ ap (λ (l : List ℕ). length (flat_map f l)) e, g.is ∙ ap (λ (l : List ℕ). over (flat_map f l) b) e)

pub number_is : (from count i : ℕ) → i < count → get_or (numbers from count) i 0 ≡ from + i
unfolding numbers
number_is from zero i h = absurd (omega arith)
number_is from (suc count) zero h = omega arith
number_is from (suc count) (suc i) h = omega (arith, number_is (from + 1) count i (omega arith))

module _ (N : Network) where
  pub lines-length : length (line_numbers N) ≡ length N.lines
  unfolding line_numbers
  lines-length = numbers-length 1 (length N.lines)

  pub line-is : (i : ℕ) → i < length N.lines → i + 1 ≡ get_or (line_numbers N) i 0
  unfolding line_numbers
  line-is i h = omega (arith, number_is 1 (length N.lines) i h)
