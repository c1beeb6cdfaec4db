-- Allowed sets: the first places of one are one, and the empty set is one where the file meets the series rule.
use Prim.Native.Nat.{ℕ, ◌+◌, ◌≤◌}
use Rattle.std.proofs.Math.Bool.{Bool, true, false}
use Rattle.std.specs.Prelude.{not, ◌&&◌, ◌≡◌, refl, leb}
use Rattle.std.proofs.lemmas.Bool.{false≢true}
use mathlib.Core.List.{List, [], ◌∷◌, ◌++◌, map}
use Rattle.std.proofs.Common.{sym, ap, ◌∙◌, length-append}
use native.Mathlib.Omega.{arith}
use Rattle.std.proofs.Math.ListN.{length}
use Rattle.std.proofs.Math.Dec.{ltb}
use borrow.Author.Tests.{leb-true, le-leb, ltb-true, lt-ltb}
use Rattle.model.specs.Lists.{any, keep, sum}
use Rattle.model.specs.Network.{Network}
use Rattle.model.specs.Paths.{station, End, is_breaker, paths, is_hv, station_numbers}
use Rattle.model.specs.Rules.{breakers_on, series_broken}
use Rattle.model.specs.Sets.{place_at, with_breakers, allowed}
use Rattle.savings.specs.Facts.{or_left, both, any-mono}
use Rattle.savings.specs.Shape.{Same, is_hv-same, paths-same, station_numbers-same}
use Rattle.savings.specs.Breakers.{Valid, valid-left, valid-right, valid_same, with_breakers-same, with_breakers-breaker, with_breakers-append}

-- one network has the breakers of the other, and perhaps more
module _ (M N : Network) (i : (e : End) → is_breaker N e ≡ true → is_breaker M e ≡ true) where
  -- a path passes no fewer
  breakers_on-grows : (es : List End) → breakers_on N es ≤ breakers_on M es
  unfolding breakers_on keep
  breakers_on-grows [] = omega arith
  breakers_on-grows (e ∷ es) = go (is_breaker N e) (is_breaker M e) (i e) (keep (λ d. is_breaker N d) es) (keep (λ d. is_breaker M d) es) (breakers_on-grows es)
    where
      go : (a b : Bool) → (a ≡ true → b ≡ true) → (xs ys : List End) → length xs ≤ length ys
          → length {A = End} (elim a as (λ x. List End) [ true ↦ e ∷ xs | false ↦ xs ]) ≤ length {A = End} (elim b as (λ x. List End) [ true ↦ e ∷ ys | false ↦ ys ])
      go true true j xs ys ih = omega arith
      go true false j xs ys ih = absurd (false≢true (j refl))
      go false true j xs ys ih = omega arith
      go false false j xs ys ih = ih

  -- if the series rule is broken with the fewer breakers, it is with the more
  series_broken-grows : Same M N → series_broken N ≡ true → series_broken M ≡ true
  unfolding series_broken
  series_broken-grows s h =
      let too_many : Network → List End → Bool = λ L es. ltb N.head.series (breakers_on L es) in
      let broken : Network → ℕ → Bool = λ L t. is_hv N t && any (too_many L) (paths N (station t)) in
      let grows : (es : List End) → too_many N es ≡ true → too_many M es ≡ true
      = λ es k. lt-ltb N.head.series (breakers_on M es) (omega (arith, ltb-true N.head.series (breakers_on N es) k, breakers_on-grows es)) in
      (λ j. any (λ t. is_hv-same M N s t j && any (λ es. ltb (s.head j).series (breakers_on M es)) (paths-same M N s (station t) j)) (station_numbers-same M N s j))
      ∙ any-mono (broken N) (broken M) (station_numbers N)
      (λ t q. let b = both (is_hv N t) (any (too_many N) (paths N (station t))) q in
      λ j. b.0 j && any-mono (too_many N) (too_many M) (paths N (station t)) grows b.1 j) h

-- the sum over two sets together
pub sum-append : (f : ℕ → ℕ) (S T : List ℕ) → sum (map f (S ++ T)) ≡ sum (map f S) + sum (map f T)
unfolding sum
sum-append f [] T = omega arith
sum-append f (p ∷ S) T = omega (arith, sum-append f S T)

-- a part of what is within a bound is within it
fits : (a b c m : ℕ) → a ≡ b + c → leb a m ≡ true → leb b m ≡ true
fits a b c m q h = le-leb b m (omega (arith, leb-true a m h))

-- the four tests of an allowed set
record Tests (N : Network) (S : List ℕ) : Type 0 where
  pub adds : leb (length S) N.head.adds ≡ true
  pub money : leb (sum (map (λ p. (place_at N p).cost) S)) N.head.money ≡ true
  pub hours : leb (sum (map (λ p. (place_at N p).hours) S)) N.head.hours ≡ true
  pub series : not (series_broken (with_breakers N S)) ≡ true

module _ (N : Network) (S : List ℕ) where
  allowed-tests : allowed N S ≡ true → Tests N S
  unfolding allowed
  allowed-tests h =
      let a = both _ (not (series_broken (with_breakers N S))) h in
      let b = both _ (leb (sum (map (λ p. (place_at N p).hours) S)) N.head.hours) a.0 in
      let c = both (leb (length S) N.head.adds) (leb (sum (map (λ p. (place_at N p).cost) S)) N.head.money) b.0 in
      record { adds = c.0; money = c.1; hours = b.1; series = a.1 }

  tests-allowed : Tests N S → allowed N S ≡ true
  unfolding allowed
  tests-allowed t = λ i. t.adds i && t.money i && t.hours i && t.series i

-- if the series rule is broken with the first places of a set, it is with all of them
pub series-prefix : (N : Network) (S T : List ℕ) → Valid N (S ++ T) → series_broken (with_breakers N S) ≡ true → series_broken (with_breakers N (S ++ T)) ≡ true
series-prefix N S T v k =
    let M : Network = with_breakers N S in
    let u : Valid M T = valid_same M N (with_breakers-same S N (valid-left N S T v)) T (valid-right N S T v) in
    ap series_broken (with_breakers-append S T N)
    ∙ series_broken-grows (with_breakers M T) M (λ e b. with_breakers-breaker T M u e ∙ or_left (is_breaker M e) _ b) (with_breakers-same T M u) k

-- the first places of an allowed set are an allowed set
pub allowed-prefix : (N : Network) (S T : List ℕ) → Valid N (S ++ T) → allowed N (S ++ T) ≡ true → allowed N S ≡ true
allowed-prefix N S T v h =
    let t : Tests N (S ++ T) = allowed-tests N (S ++ T) h in
    tests-allowed N S (record {
      adds = fits _ _ _ N.head.adds (length-append S T) t.adds;
      money = fits _ _ _ N.head.money (sum-append (λ p. (place_at N p).cost) S T) t.money;
      hours = fits _ _ _ N.head.hours (sum-append (λ p. (place_at N p).hours) S T) t.hours;
      series = kept (series_broken (with_breakers N S)) (series_broken (with_breakers N (S ++ T))) (series-prefix N S T v) t.series;
    })
  where
    kept : (x y : Bool) → (x ≡ true → y ≡ true) → not y ≡ true → not x ≡ true
    kept true y f k = ap not (sym (f refl)) ∙ k
    kept false y f k = refl

-- an allowed set has at most `adds` members
pub allowed-few : (N : Network) (S : List ℕ) → allowed N S ≡ true → length S ≤ N.head.adds
allowed-few N S h = leb-true (length S) N.head.adds (allowed-tests N S h).adds

-- the empty set is allowed where the file meets the series rule
pub allowed-none : (N : Network) → series_broken N ≡ false → allowed N [] ≡ true
unfolding sum with_breakers
allowed-none N h = tests-allowed N [] (record {
  adds = le-leb 0 N.head.adds (omega arith);
  money = le-leb 0 N.head.money (omega arith);
  hours = le-leb 0 N.head.hours (omega arith);
  series = ap not h;
})
