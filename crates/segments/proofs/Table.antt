-- The segment table line by line.
use Prim.Native.Nat.{ℕ}
use mathlib.Core.Path.{◌≡◌, refl, ap}
use mathlib.Core.Bool.{Bool, true, false}
use mathlib.Core.List.{List, [], ◌∷◌, ◌++◌, flat_map}
use Rattle.model.specs.Lists.{keep}
use Rattle.model.specs.Network.{Network}
use Rattle.model.specs.Paths.{End, end1, end2, line_numbers, is_breaker}
use Rattle.model.specs.Segments.{breaker_ends, segment, segment_table}
use Rattle.segments.specs.Entries.{entries_of}

module _ (N : Network) where
  ends_of : ℕ → List End
  ends_of l = end1 l ∷ end2 l ∷ []

  abbrev picked : Bool → End → List End → List End
  picked b e es = elim b [ true ↦ e ∷ es | false ↦ es ]

  abbrev entry : Bool → End → List ℕ
  entry b e = elim b [ true ↦ segment N e | false ↦ [] ]

  lines-table : (ls : List ℕ) → flat_map (λ l. entries_of N l) ls ≡ flat_map (λ e. segment N e) (keep (λ e. is_breaker N e) (flat_map ends_of ls))
  unfolding flat_map keep ends_of segment
  lines-table [] = refl
  lines-table (l ∷ ls) = go (is_breaker N (end1 l)) (is_breaker N (end2 l)) (lines-table ls)
    where
      go : (a b : Bool) → flat_map (λ l. entries_of N l) ls ≡ flat_map (λ e. segment N e) (keep (λ e. is_breaker N e) (flat_map ends_of ls))
          → (entry a (end1 l) ++ entry b (end2 l)) ++ flat_map (λ l. entries_of N l) ls
          ≡ flat_map (λ e. segment N e) (picked a (end1 l) (picked b (end2 l) (keep (λ e. is_breaker N e) (flat_map ends_of ls))))
      go true true ih = ap (λ (t : List ℕ). segment N (end1 l) ++ segment N (end2 l) ++ t) ih
      go true false ih = ap (λ (t : List ℕ). segment N (end1 l) ++ t) ih
      go false true ih = ap (λ (t : List ℕ). segment N (end2 l) ++ t) ih
      go false false ih = ih

  pub table-lines : flat_map (λ l. entries_of N l) (line_numbers N) ≡ segment_table N
  unfolding segment_table breaker_ends ends_of
  table-lines = lines-table (line_numbers N)
