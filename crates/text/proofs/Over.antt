-- A text over the start of a list, which grows behind its end.
use mathlib.Core.Path.{◌≡◌, sym, ap, ◌∙◌}
use mathlib.Core.List.{List, [], ◌∷◌, ◌++◌, append_assoc, append-nil}
use Prim.Native.Nat.{ℕ, suc, ◌-◌, ◌≤◌, ◌<◌}
use native.Mathlib.Numerals.{add-one}
use native.Mathlib.Omega.{arith}
use lib.ListN.{length, get_or, take, drop, set, length-append, length-drop, drop_of_length-le}
use lib.Seq.{drop-cons, set_at, take_at, drop_at, drop-drop, take_all}
use borrow.Rule.Slice.PartMut.{put_mid}
use Rattle.text.specs.Over.{over}

module _ (s b w : List ℕ) (q : ℕ) (is : w ≡ over s b) (here : q ≡ length s) where
  pub over-length : q ≤ length b → length w ≡ length b
  over-length h = ap length is ∙ simp (length-append, length-drop) (omega arith)

  -- a byte stored behind the text
  pub over-set : (v : ℕ) → q < length b → set w q v ≡ over (s ++ (v ∷ [])) b
  over-set v h =
      let inside : length s < length b = omega arith in
      rw (is, drop-cons b (length s) 0, set_at s (get_or b (length s) 0) (drop (suc (length s)) b) v q (sym here), append_assoc, length-append, add-one)

  -- a text over the start of the part behind the text
  pub over-part : (t d : List ℕ) → d ≡ over t (take (length w - q) (drop q w)) → put_mid q (length w - q) w d ≡ over (s ++ t) b
  over-part t d e =
      let long : length (drop q w) ≤ length w - q = omega (arith, length-drop q w) in
      let front : take q w ≡ s = ap (take q) is ∙ take_at s (drop (length s) b) q (sym here) in
      let rest : drop q w ≡ drop (length s) b = ap (drop q) is ∙ drop_at s (drop (length s) b) q (sym here) in
      rw (e, take_all (length w - q) (drop q w), drop_of_length-le (drop q w) {i = length w - q} long, append-nil, front, rest, drop-drop, append_assoc, length-append)
