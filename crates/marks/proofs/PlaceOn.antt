-- The place on an end: it is a place of the network and its end is that one, or the end is no place's.
use Prim.Native.Nat.{ℕ, zero, suc, ◌+◌, ◌≤◌, ◌<◌}
use mathlib.Core.Path.{◌≡◌, refl, ap, ◌∙◌}
use mathlib.Core.Bool.{Bool, true, false, ◌||◌}
use mathlib.Core.Logic.{◌⊎◌, inl, inr, ⊎_elim}
use mathlib.Core.List.Memᴰ
use mathlib.Core.List.{List, map, Memᴰ}
use native.Mathlib.Omega.{arith}
use lib.ListN.{length}
use borrow.Author.Tests.{eqb-true}
use Rattle.model.specs.Lists.{any, numbers, first_or}
use Rattle.model.specs.Network.{Network}
use Rattle.model.specs.Paths.{End, same_end, state, is_breaker}
use Rattle.model.specs.Outage.{no_end}
use Rattle.model.specs.Sets.{place_numbers}
use Rattle.savings.specs.Facts.{same_end-eq, same_end-refl}
use Rattle.savings.specs.First.{this}
use Rattle.savings.specs.Breakers.{end_at}
use Rattle.theory.specs.Reading.{Read}
use Rattle.theory.specs.Ends.{any-in, in-numbers}
use Rattle.theory.specs.Best.{Accepted, place-plain}
use Rattle.sets.specs.Ways.{has}
use Rattle.sets.specs.Apart.{place_ends}
use Rattle.marks.specs.Held.{place_on}
use Rattle.marks.proofs.Marking.{place-fits}

-- of numbered ends, the number of the first that is e
pub record FoundAt (f : ℕ → End) (e : End) (ks : List ℕ) (low high r : ℕ) : Type 0 where
  pub from : low ≤ r
  pub to : r < high
  pub is : f r ≡ e
  pub listed : has e (map f ks) ≡ true

abbrev pub NotFound : (ℕ → End) → End → List ℕ → ℕ → Type 0
NotFound f e ks r = (r ≡ 0) × (has e (map f ks) ≡ false)

found_at : (f : ℕ → End) (e : End) (from count : ℕ)
    → NotFound f e (numbers from count) (first_or 0 (λ p. same_end (f p) e) (numbers from count)) ⊎ FoundAt f e (numbers from count) from (from + count) (first_or 0 (λ p. same_end (f p) e) (numbers from count))
unfolding first_or numbers any
found_at f e from zero = inl (refl, refl)
found_at f e from (suc count) = go (same_end (f from) e) refl (found_at f e (from + 1) count)
  where
    rest : ℕ
    rest = first_or 0 (λ p. same_end (f p) e) (numbers (from + 1) count)

    go : (b : Bool) → same_end (f from) e ≡ b → NotFound f e (numbers (from + 1) count) rest ⊎ FoundAt f e (numbers (from + 1) count) (from + 1) (from + 1 + count) rest
        → NotFound f e (numbers from (suc count)) (this b from rest) ⊎ FoundAt f e (numbers from (suc count)) from (from + suc count) (this b from rest)
    go true h ih = inr (record { from = omega arith; to = omega arith; is = same_end-eq (f from) e h; listed = ap (λ b. b || has e (map f (numbers (from + 1) count))) h })
    go false h (inl n) = inl (n.0, ap (λ b. b || has e (map f (numbers (from + 1) count))) h ∙ n.1)
    go false h (inr g) = inr (record { from = omega (arith, g.from); to = omega (arith, g.to); is = g.is; listed = ap (λ b. b || has e (map f (numbers (from + 1) count))) h ∙ g.listed })

-- a place of the network on an end
pub record Placed (N : Network) (e : End) : Type 0 where
  pub low : 1 ≤ place_on N e
  pub high : place_on N e ≤ length N.places
  pub is : end_at N (place_on N e) ≡ e
  pub listed : has e (place_ends N) ≡ true

abbrev pub Unplaced : Network → End → Type 0
Unplaced N e = (place_on N e ≡ 0) × (has e (place_ends N) ≡ false)

pub place-or-none : (N : Network) (e : End) → Unplaced N e ⊎ Placed N e
unfolding place_on place_numbers
place-or-none N e = ⊎_elim (λ n. inl n) (λ g. inr (record { low = g.from; high = omega (arith, g.to); is = g.is; listed = g.listed })) (found_at (λ p. end_at N p) e 1 (length N.places))

pub listed-number : (N : Network) (p : ℕ) → 1 ≤ p → p ≤ length N.places → Memᴰ p (place_numbers N)
unfolding place_numbers
listed-number N p a b = in-numbers p 1 (length N.places) a (omega arith)

pub listed-place : (N : Network) (p : ℕ) → 1 ≤ p → p ≤ length N.places → has (end_at N p) (place_ends N) ≡ true
listed-place N p a b = any-in (λ d. same_end d (end_at N p)) (end_at N p) (place_ends N) (Memᴰ.map (λ p. end_at N p) (listed-number N p a b)) (same_end-refl (end_at N p))

-- no place is on the end that is not there
pub no-end-unplaced : (N : Network) → Read N → Unplaced N no_end
no-end-unplaced N d = ⊎_elim (λ n. n) (λ g. absurd (omega (arith, (place-fits N d (place_on N no_end) g.low g.high).line, ap (λ (e : End). e.line) g.is))) (place-or-none N no_end)

module _ (N : Network) (a : Accepted N) where
  -- no place is on a breaker
  pub breaker-unplaced : (e : End) → is_breaker N e ≡ true → place_on N e ≡ 0
  breaker-unplaced e b = ⊎_elim (λ n. n.0) (λ g. absurd (omega (arith, eqb-true (state N e) 1 b, ap (state N) g.is, place-plain N a (place_on N e) (listed-number N _ g.low g.high)))) (place-or-none N e)
