-- The places of an accepted file are on ends of their own, none of them with a breaker.
use Rattle.std.specs.Prelude.{ℕ, zero, suc, ◌≤◌, ◌<◌, ◌≡◌, Bool, ◌||◌, ◌≢◌, ◌⊎◌, ltb}
use Rattle.std.proofs.Math.Path.{refl}
use Rattle.std.proofs.Common.{sym, ap, inl, inr, arith, eqb-true, ltb-true}
use Rattle.std.proofs.Math.Bool.{true, false}
use mathlib.Core.List.{List, [], ◌∷◌, map, Memᴰ}
use Rattle.std.proofs.Math.Decide.{dec_lt}
use Rattle.std.proofs.Math.Dec.{eqb}
use Rattle.std.proofs.Math.ListN.{length}
use Rattle.model.specs.Lists.{any, numbers, numbered}
use Rattle.model.specs.Network.{Network, Place, no_place, comes_after}
use Rattle.model.specs.Paths.{End, same_end}
use Rattle.model.specs.Sets.{place_numbers, place_at}
use Rattle.graphs.specs.Graph.{Fresh, NoRepeat}
use Rattle.savings.specs.Facts.{or_cases, both, same_end-eq}
use Rattle.savings.specs.Breakers.{end_of, end_at}
use Rattle.savings.specs.Totals.{breakers_with}
use Rattle.theory.specs.Reading.{InOrder}
use Rattle.theory.specs.Ends.{numbers-in}
use Rattle.theory.specs.Behind.{map-once, numbers-once}
use Rattle.theory.specs.Best.{Accepted, place-plain}

-- q is on a later line than p, or on a later end of the same line
abbrev After : Place → Place → Type 0
After p q = (p.line < q.line) ⊎ ((p.line ≡ q.line) × (p.side < q.side))

after_is : (p q : Place) → comes_after p q ≡ true → After p q
unfolding comes_after
after_is p q h = or_cases (ltb p.line q.line) _ (λ a. inl (ltb-true _ _ a)) (λ a. let b = both (eqb p.line q.line) _ a in inr (eqb-true _ _ b.0, ltb-true _ _ b.1)) h

after-trans : (p q s : Place) → After p q → After q s → After p s
after-trans p q s (inl a) (inl b) = inl (omega (arith, a, b))
after-trans p q s (inl a) (inr b) = inl (omega (arith, a, b.0))
after-trans p q s (inr a) (inl b) = inl (omega (arith, a.0, b))
after-trans p q s (inr a) (inr b) = inr (omega (arith, a.0, b.0), omega (arith, a.1, b.1))

after-other : (p q : Place) → After p q → end_of p ≢ end_of q
after-other p q (inl a) e = omega (arith, a, ap (λ (x : End). x.line) e)
after-other p q (inr a) e = omega (arith, a.1, ap (λ (x : End). x.side) e)

-- of places in order, each comes after what is before them, and after each with a smaller number
after_first : (ps : List Place) (before : Place) → InOrder before ps → (k : ℕ) → 1 ≤ k → k ≤ length ps → After before (numbered no_place ps k)
unfolding numbered
after_first ps before o zero a b = absurd (omega arith)
after_first [] before o (suc k) a b = absurd (omega arith)
after_first (p ∷ ps) before o (suc zero) a b = after_is before p o.0
after_first (p ∷ ps) before o (suc (suc k)) a b = after-trans before p (numbered no_place ps (suc k)) (after_is before p o.0) (after_first ps p o.1 (suc k) (omega arith) (omega arith))

after-each : (ps : List Place) (before : Place) → InOrder before ps → (j k : ℕ) → 1 ≤ j → j < k → k ≤ length ps → After (numbered no_place ps j) (numbered no_place ps k)
unfolding numbered
after-each ps before o zero k a b c = absurd (omega arith)
after-each ps before o (suc j) zero a b c = absurd (omega arith)
after-each [] before o (suc j) (suc k) a b c = absurd (omega arith)
after-each (p ∷ ps) before o (suc j) (suc zero) a b c = absurd (omega arith)
after-each (p ∷ ps) before o (suc zero) (suc (suc k)) a b c = after_first ps p o.1 (suc k) (omega arith) (omega arith)
after-each (p ∷ ps) before o (suc (suc j)) (suc (suc k)) a b c = after-each ps p o.1 (suc j) (suc k) (omega arith) (omega arith) (omega arith)

-- the ends of a file's places
abbrev pub place_ends : Network → List End
place_ends N = map (λ p. end_at N p) (place_numbers N)

module _ (N : Network) (a : Accepted N) where
  -- two places are on two ends
  pub ends-apart : (p q : ℕ) → Memᴰ p (place_numbers N) → Memᴰ q (place_numbers N) → end_at N p ≡ end_at N q → p ≡ q
  unfolding place_numbers place_at
  ends-apart p q m k e = go (dec_lt p q) (dec_lt q p)
    where
      within : (j : ℕ) → Memᴰ j (numbers 1 (length N.places)) → (1 ≤ j) × (j ≤ length N.places)
      within j n = let i = numbers-in j 1 (length N.places) n in (i.0, omega (arith, i.1))

      after : (j k : ℕ) → Memᴰ j (numbers 1 (length N.places)) → Memᴰ k (numbers 1 (length N.places)) → j < k → end_at N j ≢ end_at N k
      after j k m n l = after-other (place_at N j) (place_at N k) (after-each N.places no_place a.order j k (within j m).0 l (within k n).1)

      go : Dec (p < q) → Dec (q < p) → p ≡ q
      go (yes l) _ = absurd (after p q m k l e)
      go (no l) (yes g) = absurd (after q p k m g (sym e))
      go (no l) (no g) = omega arith

  pub ends-once : NoRepeat (place_ends N)
  unfolding place_numbers
  ends-once = map-once (λ p. end_at N p) (place_numbers N) ends-apart (numbers-once 1 (length N.places))

  -- a place's end has no breaker, nor does it get one with places other than it
  pub place-free : (q : ℕ) → Memᴰ q (place_numbers N) → (S : List ℕ) → ((p : ℕ) → Memᴰ p S → Memᴰ p (place_numbers N)) → Fresh q S → breakers_with N S (end_at N q) ≡ false
  unfolding any
  place-free q m S h f = λ i. eqb (place-plain N a q m i) 1 || others S h f i
    where
      others : (S : List ℕ) → ((p : ℕ) → Memᴰ p S → Memᴰ p (place_numbers N)) → Fresh q S → any (λ p. same_end (end_at N q) (end_at N p)) S ≡ false
      others [] h f = refl
      others (p ∷ S) h f = go (same_end (end_at N q) (end_at N p)) refl (others S (λ j k. h j (Memᴰ.tail k)) f.1)
        where
          go : (b : Bool) → same_end (end_at N q) (end_at N p) ≡ b → any (λ p. same_end (end_at N q) (end_at N p)) S ≡ false → (b || any (λ p. same_end (end_at N q) (end_at N p)) S) ≡ false
          go true e ih = absurd (f.0 (ends-apart q p m (h p (Memᴰ.head refl)) (same_end-eq _ _ e)))
          go false e ih = ih
