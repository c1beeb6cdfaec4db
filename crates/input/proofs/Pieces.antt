-- A buffer that is filled piece by piece from a reader whose bytes are known.
use Rattle.std.proofs.Common.{◌≡◌, ℕ, ◌+◌, ◌-◌, ◌≤◌, List, ◌++◌, Option, None, Some, arith, length, take, drop, sym, ap, ◌∙◌, append-nil, take_all, length-take-le, le_refl}
use Rattle.std.proofs.lemmas.Slice.{take-put_mid_below}
use Rattle.std.specs.Io.KnownBytes.{Consumes, IsAtEnd}
use borrow.Rule.Slice.PartMut.{put_mid, post_of}
use lib.Seq.{take-append-le, take-add, drop_at}
use Rattle.input.specs.Reading.{ReadsAll}

-- the buffer's first bytes, and the n that were read behind them
pub piece-behind : (at n : ℕ) (buf got : List ℕ) → at ≤ length buf → n ≤ length got
    → take at buf ++ take n got ≡ take (at + n) (put_mid at (length buf - at) buf got)
piece-behind at n buf got within fits =
    let all = put_mid at (length buf - at) buf got in
    let front : take at all ≡ take at buf = take-put_mid_below _ _ _ _ _ (le_refl _) within in
    let part = ap (take n) (drop_at (take at buf) (got ++ post_of at (length buf - at) buf) at (length-take-le at buf within)) ∙ take-append-le n got (post_of at (length buf - at) buf) fits in
    sym (take-add at n all ∙ ap (λ l. l ++ take n (drop at all)) front ∙ ap (λ l. take at buf ++ l) part)

-- at the end all is read
pub ended-all : (known left : Option (List ℕ)) (room : ℕ) (read : List ℕ) → Consumes known left read → IsAtEnd left → length read ≤ room → ReadsAll known room read
ended-all None left room read c e h = tt
ended-all (Some xs) None room read c e h = absurd c
ended-all (Some xs) (Some ys) room read c e h = sym (ap (take room) (c ∙ ap (λ l. read ++ l) e ∙ append-nil read) ∙ take_all room read h)

-- where there is room for no more, what the room holds is read
pub full-all : (known left : Option (List ℕ)) (room : ℕ) (read : List ℕ) → Consumes known left read → length read ≡ room → ReadsAll known room read
full-all None left room read c h = tt
full-all (Some xs) None room read c h = absurd c
full-all (Some xs) (Some ys) room read c h = sym (ap (take room) c ∙ take-append-le room read ys (omega (arith, h)) ∙ take_all room read (omega (arith, h)))
