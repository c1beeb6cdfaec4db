-- A printed line that grows number by number at the start of a buffer.
use mathlib.Core.Path.{◌≡◌, refl, sym, ap, ◌∙◌}
use mathlib.Core.List.{List, [], ◌∷◌, ◌++◌, append_assoc, append-nil, flat_map}
use Prim.Native.Nat.{ℕ, suc, ◌+◌, ◌-◌, ◌*◌, ◌≤◌, ◌<◌}
use native.Mathlib.Numerals.{add-one}
use native.Mathlib.Omega.{arith}
use lib.ListN.{length, get_or, take, drop, set, length-append, length-set}
use lib.Seq.{take-suc, take_all, drop-set-lt}
use borrow.Rule.Slice.PartMut.{put_mid}
use Rattle.std.proofs.lemmas.Grind.{flat_map-append}
use Rattle.model.specs.Format.{comma, newline}
use Rattle.model.specs.Text.{decimal, printed_line}
use Rattle.text.specs.Over.{over, Written}
use Rattle.text.proofs.Over.{over-length, over-set, over-part}

-- a line before its newline
unfoldable pub line_start : ℕ → List ℕ → List ℕ
line_start letter ns = letter ∷ flat_map (λ n. comma ∷ decimal n) ns

start-more : (letter : ℕ) (ns : List ℕ) (i : ℕ) → i < length ns → (line_start letter (take i ns) ++ (comma ∷ [])) ++ decimal (get_or ns i 0) ≡ line_start letter (take (i + 1) ns)
unfolding line_start flat_map
start-more letter ns i h =
    rw (add-one, take-suc ns i 0, flat_map-append (λ n. comma ∷ decimal n), append-nil, append_assoc)

start-all : (letter : ℕ) (ns : List ℕ) (i : ℕ) → length ns ≤ i → line_start letter (take i ns) ++ (newline ∷ []) ≡ printed_line letter ns
unfolding line_start printed_line
start-all letter ns i h = ap (λ (l : List ℕ). line_start letter l ++ (newline ∷ [])) (take_all i ns h)

-- w is the list b with the line up to its first i numbers, `at` bytes, over its start; there is room for the whole line.
pub record Begun (letter : ℕ) (ns b w : List ℕ) (at i : ℕ) : Type 0 where
  pub room : 2 + 21 * length ns ≤ length w
  pub long : length w ≡ length b
  pub low : at ≤ 1 + 21 * i
  pub here : at ≡ length (line_start letter (take i ns))
  pub is : w ≡ over (line_start letter (take i ns)) b

module _ (letter : ℕ) (ns b : List ℕ) where
  -- a text that begins with the letter covers the letter stored before
  first : (t : List ℕ) → over (letter ∷ t) (set b 0 letter) ≡ over (letter ∷ t) b
  first t = ap (λ (l : List ℕ). (letter ∷ t) ++ l) (drop-set-lt (suc (length t)) b 0 letter (omega arith))

  pub begin : 2 + 21 * length ns ≤ length b → Begun letter ns (set b 0 letter) (set b 0 letter) 1 0
  unfolding line_start flat_map
  begin h =
      record {
        room = omega (arith, length-set b 0 letter);
        long = refl;
        low = omega arith;
        here = refl;
        is = over-set [] b b 0 refl refl letter (omega arith) ∙ sym (first []);
      }

  pub finish : (w : List ℕ) (at i : ℕ) → i ≡ length ns → Begun letter ns (set b 0 letter) w at i
      → Written (printed_line letter ns) b (set w at newline) (at + 1)
  unfolding printed_line
  finish w at i h g =
      let s : List ℕ = line_start letter (take i ns) in (
        omega (arith, ap length (start-all letter ns i (omega arith)), length-append s (newline ∷ []), g.here),
        over-set s (set b 0 letter) w at g.is g.here newline (omega arith)
            ∙ ap (λ (l : List ℕ). over l (set b 0 letter)) (start-all letter ns i (omega arith))
            ∙ first (flat_map (λ n. comma ∷ decimal n) ns ++ (newline ∷ [])),
      )

-- one number more: v is w with a comma behind the line, and d the digits over the start of the part behind the comma
pub one_more : (letter : ℕ) (ns b w v : List ℕ) (at i n : ℕ) (d : List ℕ) → i < length ns → Begun letter ns b w at i → v ≡ set w at comma
    → n ≡ length (decimal (get_or ns i 0)) → n ≤ 20
    → d ≡ over (decimal (get_or ns i 0)) (take (length v - (at + 1)) (drop (at + 1) v))
    → Begun letter ns b (put_mid (at + 1) (length v - (at + 1)) v d) (at + 1 + n) (i + 1)
one_more letter ns b w v at i n d h g stored en few e =
    let t : List ℕ = line_start letter (take i ns) ++ (comma ∷ []) in
    let more = start-more letter ns i h in
    let here1 : at + 1 ≡ length t = omega (arith, g.here, length-append (line_start letter (take i ns)) (comma ∷ [])) in
    let here2 : at + 1 + n ≡ length (line_start letter (take (i + 1) ns)) = omega (arith, here1, length-append t (decimal (get_or ns i 0)), ap length more) in
    let is1 = stored ∙ over-set (line_start letter (take i ns)) b w at g.is g.here comma (omega arith) in
    let is2 = over-part t b v (at + 1) is1 here1 (decimal (get_or ns i 0)) d e ∙ ap (λ (l : List ℕ). over l b) more in
    let long2 = over-length (line_start letter (take (i + 1) ns)) b _ (at + 1 + n) is2 here2 (omega arith) in
    record { room = omega arith; long = long2; low = omega arith; here = here2; is = is2 }
