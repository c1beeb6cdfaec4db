-- `sets_up_to` lists as many sets as `set_count` says.
use Rattle.std.specs.Prelude.{◌≡◌, refl, List, [], ◌∷◌, ◌++◌, map, ℕ, zero, suc, ◌+◌, length}
use Rattle.std.proofs.Common.{add-one, arith, length-append}
use Rattle.model.specs.Lists.{sum, numbers}
use Rattle.model.specs.Sets.{extensions, sets_up_to}
use Rattle.model.specs.Ceiling.{binomial, set_count}

-- the sum of `count` binomial coefficients of a row, from a column on
abbrev entries : ℕ → ℕ → ℕ → ℕ
entries row column count = sum (map (λ k. binomial row k) (numbers column count))

-- past column 0 the entries of row 0 are 0
entries-first : (column count : ℕ) → entries 0 (suc column) count ≡ 0
unfolding sum numbers binomial
entries-first column zero = refl
entries-first column (suc count) = rw add-one (omega (arith, entries-first (suc column) count))

-- past column 0 every later entry is the sum of the one above and the one above to the left
entries_next : (row column count : ℕ) → entries (suc row) (suc column) count ≡ entries row (suc column) count + entries row column count
unfolding sum numbers binomial
entries_next row column zero = refl
entries_next row column (suc count) =
    rw (add-one (suc column), add-one column) (omega (arith, entries_next row (suc column) count))

-- the extensions of a set, with the set itself
extensions-count : (r : ℕ) (S later : List ℕ) → suc (length (extensions r S later)) ≡ entries (length later) 0 (suc r)
unfolding extensions sum numbers binomial
extensions-count r S [] = omega (arith, entries-first 0 r)
extensions-count zero S (q ∷ later) = refl
extensions-count (suc r) S (q ∷ later) =
    let T = S ++ (q ∷ []) in
    omega (
      arith,
      length-append (extensions r T later) (extensions (suc r) S later),
      extensions-count r T later,
      extensions-count (suc r) S later,
      entries_next (length later) 0 (suc r),
    )

pub sets-count : (most : ℕ) (places : List ℕ) → length (sets_up_to most places) ≡ set_count (length places) most
unfolding sets_up_to set_count
sets-count most places = rw add-one (extensions-count most [] places)
