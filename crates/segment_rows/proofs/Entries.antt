-- The rows of a segment table in a buffer are those of its definition.
use Prim.Native.Nat.{ℕ, ◌+◌, ◌*◌}
use mathlib.Core.Path.{◌≡◌, refl, sym, ap, ap₂, ◌∙◌}
use mathlib.Core.List.{List, [], ◌∷◌, ◌++◌, append_assoc, flat_map}
use native.Mathlib.Omega.{arith}
use lib.ListN.{length, take, drop}
use lib.Seq.{take_at, drop_at, drop-drop}
use Rattle.model.specs.Lists.{numbers}
use Rattle.model.specs.Network.{Network}
use Rattle.model.specs.Segments.{breaker_ends, segment, segment_table}
use Rattle.model.specs.Text.{printed_line}
use Rattle.model.specs.Commands.{segments_text}
use Rattle.segment_rows.specs.Rows.{entry_row, entry_rows, table_text}

-- rows of five numbers, one behind another
module _ {A : Type 0} (row : A → List ℕ) (five : (x : A) → length (row x) ≡ 5) where
  rows-from : (table rest : List ℕ) (k : ℕ) (xs : List A) → drop (5 * k) table ≡ flat_map row xs ++ rest
      → flat_map (λ i. entry_row table i) (numbers k (length xs)) ≡ flat_map (λ x. printed_line 84 (row x)) xs
  unfolding flat_map numbers entry_row
  rows-from table rest k [] h = refl
  rows-from table rest k (x ∷ xs) h =
      let behind : List ℕ = flat_map row xs ++ rest in
      let split : drop (5 * k) table ≡ row x ++ behind = h ∙ append_assoc (row x) (flat_map row xs) rest in
      let here : take 5 (drop (5 * k) table) ≡ row x = ap (take 5) split ∙ take_at (row x) behind 5 (five x) in
      let next : drop (5 * (k + 1)) table ≡ behind =
      ap (λ (n : ℕ). drop n table) {x = 5 * (k + 1)} {y = 5 * k + 5} (omega arith) ∙ sym (drop-drop 5 (5 * k) table) ∙ ap (drop 5) split ∙ drop_at (row x) behind 5 (five x) in
      ap₂ (λ (s t : List ℕ). printed_line 84 s ++ t) here (rows-from table rest (k + 1) xs next)

module _ (N : Network) where
  pub table-rows : (n : ℕ) (table rest : List ℕ) → n ≡ length (breaker_ends N) → table ≡ segment_table N ++ rest → table_text n table ≡ segments_text N
  unfolding table_text entry_rows segments_text segment_table segment
  table-rows n table rest e t =
      ap (λ (m : ℕ). printed_line 71 (m ∷ []) ++ flat_map (λ i. entry_row table i) (numbers 0 m)) e
      ∙ ap (λ (s : List ℕ). printed_line 71 (length (breaker_ends N) ∷ []) ++ s) (rows-from (λ x. segment N x) (λ x. refl) table rest 0 (breaker_ends N) t)

pub table_is : (n : ℕ) (table : List ℕ) → printed_line 71 (n ∷ []) ++ entry_rows n table ≡ table_text n table
unfolding table_text
table_is n table = refl
