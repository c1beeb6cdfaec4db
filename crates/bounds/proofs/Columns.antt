-- The columns of the table of the sums, as they are written.
use Prim.Native.Nat.{ℕ, zero, suc, ◌+◌, ◌-◌, ◌≤◌, ◌<◌}
use mathlib.Core.Path.{◌≡◌, refl, sym, ap, ◌∙◌, subst}
use mathlib.Core.Bool.{Bool, true, false}
use mathlib.Core.List.{List, [], ◌∷◌, ◌++◌}
use mathlib.Core.Logic.{⊎_elim}
use native.Mathlib.Decide.{ℕ_discrete}
use native.Mathlib.Nat.{eq-or-lt_of_le}
use native.Mathlib.Numerals.{add-one}
use native.Mathlib.Omega.{arith}
use lib.Dec.{leb}
use lib.ListN.{replicate, length, get_or, set, take, drop, drop_of_length-le, get_or-eq_default}
use Rattle.std.proofs.lemmas.List.{length-drop, length_push, same_from_push, take_more}
use lib.Seq.{get_or-set_same, get_or-set_other, drop-cons}
use Rattle.model.specs.Lists.{sum}
use Rattle.model.specs.Walk.{insert, falling, largest}
use Rattle.theory.specs.Sizes.{falling-most}
use Rattle.bounds.specs.Table.{Small, IsTable, sum_at, Column, ColumnsFrom}

-- a table of zeros
zeros : (n k : ℕ) → ◌≡◌ {A = ℕ} (get_or (replicate n 0) k 0) 0
zeros zero k = refl
zeros (suc n) zero = refl
zeros (suc n) (suc k) = zeros n k

pub all_zero : (n m r q : ℕ) → sum_at (replicate n (replicate m 0)) r q ≡ 0
all_zero zero m r q = refl
all_zero (suc n) m zero q = zeros m q
all_zero (suc n) m (suc r) q = all_zero n m r q

-- one more number of a list adds itself to the sum
pub sum-one-more : (xs : List ℕ) (r : ℕ) → sum (take (r + 1) xs) ≡ sum (take r xs) + get_or xs r 0
unfolding sum
sum-one-more xs r = rw add-one (go xs r)
  where
    go : (ys : List ℕ) (k : ℕ) → sum (take (suc k) ys) ≡ sum (take k ys) + get_or ys k 0
    go [] zero = refl
    go [] (suc k) = refl
    go (y ∷ ys) zero = omega arith
    go (y ∷ ys) (suc k) = omega (arith, go ys k)

-- the sum of one row more
module _ (list : List ℕ) (r total : ℕ) (e : total ≡ sum (take r list)) where
  pub sum-within : total + get_or list r 0 ≡ sum (take (r + 1) list)
  sum-within = omega (arith, sum-one-more list r, e)

  pub sum-beyond : length list ≤ r → total ≡ sum (take (r + 1) list)
  sum-beyond h = omega (arith, sum-one-more list r, get_or-eq_default list 0 {n = r} h, e)

-- a number of the table is written
abbrev with_sum : List (List ℕ) → ℕ → ℕ → ℕ → List (List ℕ)
with_sum sums r q v = set sums r (set (get_or sums r []) q v)

module _ {sums : List (List ℕ)} (t : IsTable sums) (r q v : ℕ) (h : r < 17) (l : q ≤ 64) where
  row-is : get_or (with_sum sums r q v) r [] ≡ set (get_or sums r []) q v
  row-is = get_or-set_same sums r (set (get_or sums r []) q v) [] (omega (arith, t.rows, h))

  sum-same : sum_at (with_sum sums r q v) r q ≡ v
  sum-same = ap (λ row. get_or row q 0) row-is ∙ get_or-set_same (get_or sums r []) q v 0 (omega (arith, t.columns r h, l))

  sum-row : (k p : ℕ) → (k ≡ r → ⊥) → sum_at (with_sum sums r q v) k p ≡ sum_at sums k p
  sum-row k p n = ap (λ row. get_or row p 0) (get_or-set_other sums r k (set (get_or sums r []) q v) [] n)

  sum-column : (k p : ℕ) → (p ≡ q → ⊥) → sum_at (with_sum sums r q v) k p ≡ sum_at sums k p
  sum-column k p n = go (ℕ_discrete k r)
    where
      go : Dec (k ≡ r) → sum_at (with_sum sums r q v) k p ≡ sum_at sums k p
      go (yes e) =
          ap (λ j. sum_at (with_sum sums r q v) j p) e ∙ ap (λ row. get_or row p 0) row-is
          ∙ get_or-set_other (get_or sums r []) q p v 0 n ∙ ap (λ j. sum_at sums j p) (sym e)
      go (no e) = sum-row k p e

-- the rows before r of column q are written
pub record Rows (xs : List ℕ) (q r : ℕ) (old new : List (List ℕ)) : Type 0 where
  pub written : (k : ℕ) → k < r → sum_at new k q ≡ sum (take k xs)
  pub others : (k p : ℕ) → k ≤ 16 → p ≤ 64 → (p ≡ q → ⊥) → sum_at new k p ≡ sum_at old k p

pub rows_none : (xs : List ℕ) (q : ℕ) (old : List (List ℕ)) → Rows xs q 0 old old
rows_none xs q old = record { written = λ k l. absurd (omega arith); others = λ k p a b n. refl }

pub rows_more : (xs : List ℕ) (q r : ℕ) (old new : List (List ℕ)) → IsTable new → q ≤ 64 → r < 17 → Rows xs q r old new → (v : ℕ) → v ≡ sum (take r xs) → Rows xs q (r + 1) old (with_sum new r q v)
rows_more xs q r old new t h l w v e = record {
  written = λ k m. ⊎_elim
      (λ o. ap (λ j. sum_at (with_sum new r q v) j q) o ∙ sum-same t r q v l h ∙ e ∙ ap (λ j. sum (take j xs)) (sym o))
      (λ n. sum-row t r q v l h k q (λ o. omega arith) ∙ w.written k n)
      (eq-or-lt_of_le {n = k} {m = r} (omega arith));
  others = λ k p a b n. sum-column t r q v l h k p n ∙ w.others k p a b n;
}

insert-length : (x : ℕ) (ys : List ℕ) → length (insert x ys) ≡ suc (length ys)
unfolding insert
insert-length x [] = refl
insert-length x (y ∷ ys) = go (leb y x) refl (insert-length x ys)
  where
    go : (t : Bool) → leb y x ≡ t → length (insert x ys) ≡ suc (length ys) → length (insert x (y ∷ ys)) ≡ suc (suc (length ys))
    go true e ih = rw (e, insert) refl
    go false e ih = rw (e, insert) (ap suc ih)

falling-length : (xs : List ℕ) → length (falling xs) ≡ length xs
unfolding falling
falling-length [] = refl
falling-length (x ∷ xs) = insert-length x (falling xs) ∙ ap suc (falling-length xs)

-- one column more of the savings' table
columns-more : (xs ys : List ℕ) (q : ℕ) (old new : List (List ℕ)) → length xs ≤ 64 → ys ≡ falling (drop q xs) → Column ys q old new → ((r p : ℕ) → r ≤ 16 → q < p → p ≤ length xs → sum_at old r p ≡ largest r (drop p xs)) → ColumnsFrom xs q new
unfolding largest
columns-more xs ys q old new h e c b r p k l m =
    ⊎_elim
    (λ o. ap (λ j. sum_at new r j) (sym o) ∙ c.written r k ∙ ap (λ zs. sum (take r zs)) e ∙ ap (λ j. sum (take r (falling (drop j xs)))) o)
    (λ o. c.others r p k (omega arith) (λ z. omega arith) ∙ b r p k o m)
    (eq-or-lt_of_le {n = q} {m = p} l)

-- a list is how another begins
pub record Begins (left xs : List ℕ) : Type 0 where
  pub long : length left ≤ length xs
  pub same : left ≡ take (length left) xs

pub begins-all : (xs : List ℕ) → Begins xs xs
begins-all xs = record { long = omega arith; same = sym (go xs) }
  where
    go : (ys : List ℕ) → take (length ys) ys ≡ ys
    go [] = refl
    go (y ∷ ys) = ap (λ zs. y ∷ zs) (go ys)

-- less its last number, which is there in the other
pub begins-less : (xs rest : List ℕ) (x : ℕ) {left : List ℕ} → Begins left xs → left ≡ rest ++ x ∷ [] → (length left ≡ length rest + 1) × (length rest < length xs) × Begins rest xs × (x ≡ get_or xs (length rest) 0)
begins-less xs rest x {left = left} b e =
    let n : length left ≡ length rest + 1 = ap length e ∙ length_push rest x in
    let within : length rest < length xs = omega (arith, b.long) in
    let both = same_from_push rest (take (length rest) xs) x (get_or xs (length rest) 0) (sym e ∙ b.same ∙ ap (λ k. take k xs) n ∙ take_more xs (length rest) 0 within) in
    (n, within, record { long = omega arith; same = both.0 }, both.1)

-- the columns from q on are written, and the savings behind the first q stand in falling order
pub record Built (savings : List ℕ) (q : ℕ) (sums : List (List ℕ)) (list : List ℕ) : Type 0 where
  pub ordered : list ≡ falling (drop q savings)
  pub columns : ColumnsFrom savings q sums

small-drop : (q : ℕ) (xs : List ℕ) → Small xs → Small (drop q xs)
small-drop zero xs s = s
small-drop (suc q) [] s = tt
small-drop (suc q) (x ∷ xs) s = small-drop q xs s.1

module _ (savings : List ℕ) where
  -- a list that is the savings behind the first q in falling order
  module _ (q : ℕ) {list : List ℕ} (e : list ≡ falling (drop q savings)) where
    pub ordered-long : length list ≡ length savings - q
    ordered-long = ap length e ∙ falling-length (drop q savings) ∙ length-drop q savings

    pub ordered-small : Small savings → Small list
    ordered-small s = subst Small (sym e) (falling-most 7864320000000000 (drop q savings) (small-drop q savings s))

  -- one more of them
  pub ordered-more : (q : ℕ) (list : List ℕ) → list ≡ falling (drop q savings) → (p : ℕ) (more : List ℕ) → p < length savings → q ≡ p + 1 → more ≡ insert (get_or savings p 0) list → more ≡ falling (drop p savings)
  unfolding falling
  ordered-more q list o p more l e m =
      m ∙ ap (insert (get_or savings p 0)) (o ∙ ap (λ k. falling (drop k savings)) {x = q} {y = suc p} (omega (arith, e)))
      ∙ ap falling (sym (drop-cons savings p 0 l))

  module _ (few : length savings ≤ 64) where
    pub built-none : (old new : List (List ℕ)) → Column [] (length savings) old new → Built savings (length savings) new []
    unfolding falling
    built-none old new c =
        let q = length savings in
        let o : [] ≡ falling (drop q savings) = ap falling (sym (drop_of_length-le savings {i = q} (omega arith))) in
        record { ordered = o; columns = columns-more savings [] q old new few o c (λ r p a b m. absurd (omega arith)) }

    pub built-more : (q : ℕ) (old : List (List ℕ)) (list : List ℕ) → Built savings q old list → (p : ℕ) (new : List (List ℕ)) (more : List ℕ)
        → p < length savings → q ≡ p + 1 → more ≡ insert (get_or savings p 0) list → Column more p old new → Built savings p new more
    built-more q old list x p new more l e m c =
        let o = ordered-more q list x.ordered p more l e m in
        record { ordered = o; columns = columns-more savings more p old new few o c (λ r k a b n. x.columns r k a (omega (arith, e)) n) }
