-- The order of the places, and the rule of places.
use mathlib.Core.Bool.{and-eq-true_iff, and-false}
use mathlib.Core.List.{map}
use Prim.Native.Nat.{zero, suc}
use native.Mathlib.Omega.{arith}
use lib.ListN.{length-map}
use lib.Seq.{get_or-append_seam}
use borrow.Author.Tests.{ltb-true, lt-ltb, le-ltb}
use Rattle.std.specs.Prelude.{◌≡◌, ℕ, ◌-◌, ◌≤◌, ◌<◌, Bool, true, false, ◌&&◌, ◌||◌, eqb, ltb, List, [], ◌∷◌, ◌++◌, length, get_or, None, Some}
use Rattle.std.specs.List.{slice_get}
use Rattle.std.proofs.Common.{ap, sym, ◌∙◌}
use Rattle.model.specs.Lists.{numbered}
use Rattle.model.specs.Network.{Line, Place, no_line, no_place, state_at, comes_after, well_placed}
use Rattle.network.specs.declared.Side.{Side}
use Rattle.network.specs.declared.Side.TheVariants.{One, Two}
use Rattle.network.specs.View.{side_number}
use Rattle.reader.specs.Reading.{last_place}

-- ── the last place ──
get_mapped : {A : Type 0} (f : A → Place) (xs : List A) (k : ℕ) (x : A) → slice_get xs k ≡ Some x → get_or (map f xs) k no_place ≡ f x
get_mapped f [] k x e = cc
get_mapped f (y ∷ xs) zero x e = let same : y ≡ x = cc in ap f same
get_mapped f (y ∷ xs) (suc k) x e = get_mapped f xs k x e

pub last_is : {A : Type 0} (f : A → Place) (xs : List A) (x : A) → slice_get xs (length xs - 1) ≡ Some x → last_place (map f xs) ≡ f x
unfolding last_place
last_is f xs x e = ap (λ n. get_or (map f xs) (n - 1) no_place) (length-map xs f) ∙ get_mapped f xs (length xs - 1) x e

got : {A : Type 0} (xs : List A) (k : ℕ) → k < length xs → slice_get xs k ≡ None → ⊥
got [] k h e = omega arith
got (x ∷ xs) zero h e = cc
got (x ∷ xs) (suc k) h e = got xs k (omega arith) e

first_after : (line side cost hours : ℕ) → 1 ≤ side → comes_after no_place (record { line = line; side = side; cost = cost; hours = hours }) ≡ true
unfolding comes_after
first_after zero side cost hours h = lt-ltb 0 side h
first_after (suc line) side cost hours h = ap (λ (b : Bool). b || (eqb 0 (suc line) && ltb 0 side)) (lt-ltb 0 (suc line) (omega arith))

pub side-positive : (s : Side) → 1 ≤ side_number s
side-positive One = omega arith
side-positive Two = omega arith

-- where there is no place yet, every place comes after
pub first_of_all : {A : Type 0} (f : A → Place) (xs : List A) (p : Place) → slice_get xs (length xs - 1) ≡ None → 1 ≤ p.side → comes_after (last_place (map f xs)) p ≡ true
unfolding last_place
first_of_all f [] p e h = first_after p.line p.side p.cost p.hours h
first_of_all f (x ∷ xs) p e h = absurd (got (x ∷ xs) (length (x ∷ xs) - 1) (omega arith) e)

pub last_of_more : (ps : List Place) (p : Place) (n : ℕ) → n ≡ length ps → get_or (ps ++ p ∷ []) n no_place ≡ p
last_of_more ps p n e = ap (λ m. get_or (ps ++ p ∷ []) m no_place) e ∙ get_or-append_seam ps p [] no_place

-- ── the rule of places ──
module _ (ls : List Line) (n : ℕ) (p q : Place) where
  pub too_many : 64 ≤ n → false ≡ well_placed ls n p q
  unfolding well_placed
  too_many h = rw (le-ltb n 64 h, well_placed)

  pub out_of_order : comes_after p q ≡ false → false ≡ well_placed ls n p q
  unfolding well_placed
  out_of_order e = rw (e, and-false (ltb n 64), well_placed)

  pub by_state : n < 64 → comes_after p q ≡ true → (x : Bool) → x ≡ eqb (state_at (numbered no_line ls q.line) q.side) 0 → x ≡ well_placed ls n p q
  unfolding well_placed
  by_state h e x k = rw (lt-ltb n 64 h, e, well_placed) k

  pub not-65th : true ≡ well_placed ls n p q → n < 64
  unfolding well_placed
  not-65th e = ltb-true n 64 ((and-eq-true_iff (ltb n 64) (comes_after p q && eqb (state_at (numbered no_line ls q.line) q.side) 0)).0 (sym e)).0
