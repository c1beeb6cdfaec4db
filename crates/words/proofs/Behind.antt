-- Bytes put behind those that are taken.
use mathlib.Core.Path.{◌≡◌, refl, sym, ap, ◌∙◌}
use mathlib.Core.Bool.{Bool, true, false}
use mathlib.Core.List.{List, ◌++◌}
use Prim.Native.Nat.{ℕ, ◌+◌, ◌-◌, ◌≤◌, ◌<◌, min}
use native.Mathlib.Omega.{arith}
use lib.Dec.{ltb}
use lib.ListN.{length, take, drop, length-take}
use lib.Seq.{take-append_seam, take-append-add, take_all}
use borrow.Author.Tests.{ltb-true, ltb-false}
use Rattle.std.proofs.lemmas.List.{length-append, take_min, append-nil, nil_from_length, drop_at}
use Rattle.std.proofs.Common.{append_assoc, drop-drop}
use Rattle.std.proofs.Math.ListN.{drop_of_length-le}

-- `n` bytes stand behind the first `s`, and `after` behind those
module _ (t s n : ℕ) (buffer bytes after : List ℕ) (start : s ≡ min t (length buffer)) (count : n ≡ min (length bytes) (length buffer - s)) (ends : length after ≡ length buffer - s - n) where
  those : take (length buffer) (take t buffer ++ bytes) ≡ take s buffer ++ take n bytes
  those =
      ap (λ (l : List ℕ). take (length buffer) (l ++ bytes)) (sym (take_min t buffer) ∙ ap (λ (i : ℕ). take i buffer) (sym start))
      ∙ ap (λ (i : ℕ). take i (take s buffer ++ bytes)) (omega (arith, length-take s buffer, start))
      ∙ take-append-add (take s buffer) bytes (length buffer - s)
      ∙ ap (λ (l : List ℕ). take s buffer ++ l) (sym (take_min (length buffer - s) bytes) ∙ ap (λ (i : ℕ). take i bytes) (omega (arith, count)))

  within : t ≤ length buffer → take (t + n) (take s buffer ++ (take n bytes ++ after)) ≡ take s buffer ++ take n bytes
  within h =
      ap (λ (i : ℕ). take i (take s buffer ++ (take n bytes ++ after))) (omega (arith, length-take s buffer, start))
      ∙ take-append-add (take s buffer) (take n bytes ++ after) n
      ∙ ap (λ (l : List ℕ). take s buffer ++ l)
      (ap (λ (i : ℕ). take i (take n bytes ++ after)) (omega (arith, length-take n bytes, count)) ∙ take-append_seam (take n bytes) after)

  beyond : length buffer < t → take (t + n) (take s buffer ++ (take n bytes ++ after)) ≡ take s buffer ++ take n bytes
  beyond h =
      ap (λ (l : List ℕ). take (t + n) (take s buffer ++ (take n bytes ++ l))) (nil_from_length after (omega (arith, ends, start)))
      ∙ ap (λ (l : List ℕ). take (t + n) (take s buffer ++ l)) (append-nil (take n bytes))
      ∙ take_all (t + n) (take s buffer ++ take n bytes) (omega (arith, length-append (take s buffer) (take n bytes), length-take s buffer, length-take n bytes, start, count))

  -- what stands behind them stays
  pub rest : after ≡ drop n (drop s buffer) → drop (t + n) (take s buffer ++ (take n bytes ++ after)) ≡ drop (t + n) buffer
  rest stays = go (ltb (length buffer) t) refl
    where
      all : List ℕ
      all = take s buffer ++ (take n bytes ++ after)

      go : (b : Bool) → ltb (length buffer) t ≡ b → drop (t + n) all ≡ drop (t + n) buffer
      go true q =
          let over : length buffer < t = ltb-true _ _ q in
          drop_of_length-le all (omega (arith, length-append (take s buffer) (take n bytes ++ after), length-append (take n bytes) after, length-take s buffer, length-take n bytes, start, count, ends, over))
          ∙ sym (drop_of_length-le buffer (omega (arith, over)))
      go false q =
          let fits : t ≤ length buffer = ltb-false _ _ q in
          let same : t ≡ s = omega (arith, start, fits) in
          ap (drop (t + n)) (sym (append_assoc (take s buffer) (take n bytes) after))
          ∙ drop_at (take s buffer ++ take n bytes) after (t + n) (omega (arith, length-append (take s buffer) (take n bytes), length-take s buffer, length-take n bytes, start, count, fits))
          ∙ stays ∙ drop-drop n s buffer ∙ ap (λ i. drop (i + n) buffer) (sym same)

  pub behind : take (t + n) (take s buffer ++ (take n bytes ++ after)) ≡ take (length buffer) (take t buffer ++ bytes)
  behind = go (ltb (length buffer) t) refl ∙ sym those
    where
      go : (b : Bool) → ltb (length buffer) t ≡ b → take (t + n) (take s buffer ++ (take n bytes ++ after)) ≡ take s buffer ++ take n bytes
      go true q = beyond (ltb-true _ _ q)
      go false q = within (ltb-false _ _ q)
