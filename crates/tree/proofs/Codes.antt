-- The codes of ends: the closed ends are the ends with the codes 1, 2, .. that are not open.
use Prim.Native.Nat.{ℕ, zero, suc, ◌+◌, ◌*◌, ◌-◌, ◌/◌, ◌%◌, ◌≤◌}
use mathlib.Core.Path.{◌≡◌, refl, sym, ap, ◌∙◌}
use mathlib.Core.Bool.{true, false, not}
use mathlib.Core.List.{[], ◌∷◌, map, flat_map}
use native.Mathlib.Omega.{arith}
use lib.ListN.{length}
use Rattle.model.specs.Lists.{keep, numbers}
use Rattle.model.specs.Network.{Network}
use Rattle.model.specs.Paths.{end1, end2, line_numbers, is_open, closed_ends}
use Rattle.tree.specs.Linked.{code_end}
use Rattle.tree.specs.Queue.{closed_above}

-- both ends of each line, by their codes
ends-coded : (from count : ℕ) → 1 ≤ from → flat_map (λ l. end1 l ∷ end2 l ∷ []) (numbers from count) ≡ map code_end (numbers (2 * from - 1) (2 * count))
unfolding flat_map numbers
ends-coded from zero h = refl
ends-coded from (suc count) h =
    (λ i. first i ∷ second i ∷ ends-coded (from + 1) count (omega arith) i)
    ∙ ap (λ k. code_end (2 * from - 1) ∷ code_end (2 * from - 1 + 1) ∷ map code_end (numbers k (2 * count))) {x = 2 * (from + 1) - 1} {y = 2 * from - 1 + 1 + 1} (omega arith)
    ∙ ap (λ n. map code_end (numbers (2 * from - 1) n)) {x = suc (suc (2 * count))} {y = 2 * suc count} (omega arith)
  where
    first : end1 from ≡ code_end (2 * from - 1)
    first i = record { line = (let e : from ≡ (2 * from - 1 + 1) / 2 = omega arith in e) i; side = (let e : 1 ≡ 2 - (2 * from - 1) % 2 = omega arith in e) i }

    second : end2 from ≡ code_end (2 * from - 1 + 1)
    second i = record { line = (let e : from ≡ (2 * from - 1 + 1 + 1) / 2 = omega arith in e) i; side = (let e : 2 ≡ 2 - (2 * from - 1 + 1) % 2 = omega arith in e) i }

module _ (N : Network) where
  pub above-none : closed_above N (2 * length N.lines) ≡ []
  unfolding keep numbers
  above-none = ap (λ n. keep (λ e. not (is_open N e)) (map code_end (numbers (2 * length N.lines + 1) n))) {x = 2 * length N.lines - 2 * length N.lines} {y = 0} (omega arith)

  pub above-all : closed_above N 0 ≡ closed_ends N
  unfolding closed_ends line_numbers
  above-all =
      ap (λ n. keep (λ e. not (is_open N e)) (map code_end (numbers 1 n))) {x = 2 * length N.lines - 0} {y = 2 * length N.lines} (omega arith)
      ∙ ap (keep (λ e. not (is_open N e))) (sym (ends-coded 1 (length N.lines) (omega arith)))

  -- one code less
  module _ (c : ℕ) (a : 1 ≤ c) (b : c ≤ 2 * length N.lines) where
    next : closed_above N (c - 1) ≡ keep (λ e. not (is_open N e)) (code_end c ∷ map code_end (numbers (c + 1) (2 * length N.lines - c)))
    unfolding numbers
    next =
        ap (λ k. keep (λ e. not (is_open N e)) (map code_end (numbers k (2 * length N.lines - (c - 1))))) {x = c - 1 + 1} {y = c} (omega arith)
        ∙ ap (λ n. keep (λ e. not (is_open N e)) (map code_end (numbers c n))) {x = 2 * length N.lines - (c - 1)} {y = suc (2 * length N.lines - c)} (omega arith)

    pub above-closed : is_open N (code_end c) ≡ false → closed_above N (c - 1) ≡ code_end c ∷ closed_above N c
    unfolding keep
    above-closed h = next ∙ rw (h, keep)

    pub above_open : is_open N (code_end c) ≡ true → closed_above N (c - 1) ≡ closed_above N c
    unfolding keep
    above_open h = next ∙ rw (h, keep)
