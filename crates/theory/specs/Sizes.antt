-- Sizes: every customer sum, outage amount, total and figure of a file that is read, and of the file with breakers added, is
-- below 2^64.
use Prim.Native.Nat.{ℕ, zero, suc, ◌+◌, ◌*◌, ◌≤◌}
use Rattle.std.proofs.Math.Nat.{mul-le-mul}
use Rattle.std.specs.Prelude.{◌≡◌, Bool, true, false, List, [], ◌∷◌, map, leb, length, get_or, set, take}
use Rattle.std.proofs.Math.Path.{refl}
use Rattle.std.proofs.Common.{ap, arith, length-set}
use Rattle.model.specs.Lists.{sum, keep, numbers, numbered, renumbered}
use Rattle.model.specs.Network.{Network, Station, Line, Place, no_line}
use Rattle.model.specs.Paths.{End, station_numbers, line_numbers, no_station, customers_of}
use Rattle.model.specs.Outage.{passes, customers_behind, tripped, impact, outage_amount, total, figure}
use Rattle.model.specs.Sets.{place_at, line_with_breaker, with_breaker, with_breakers, set_total, saving}
use Rattle.model.specs.Walk.{insert, falling, largest}
use Rattle.theory.specs.Reading.{All, Read, StationFits, LineFits}

-- ── lists ──
pub numbers-length : (from count : ℕ) → length (numbers from count) ≡ count
unfolding numbers
numbers-length from zero = refl
numbers-length from (suc count) = ap suc (numbers-length (from + 1) count)

-- a sum of values up to `most`
pub sum-most : {A : Type 0} (f : A → ℕ) (most : ℕ) → ((x : A) → f x ≤ most) → (xs : List A) → sum (map f xs) ≤ length xs * most
unfolding sum
sum-most f most h [] = omega arith
sum-most f most h (x ∷ xs) = omega (arith, h x, sum-most f most h xs)

pub keep-length : {A : Type 0} (test : A → Bool) (xs : List A) → length (keep test xs) ≤ length xs
unfolding keep
keep-length test [] = omega arith
keep-length {A} test (x ∷ xs) = go (test x) (keep-length test xs)
  where
    go : (b : Bool) → length (keep test xs) ≤ length xs → length {A = A} (elim b as (λ y. List A) [ true ↦ x ∷ keep test xs | false ↦ keep test xs ]) ≤ suc (length xs)
    go true ih = omega arith
    go false ih = omega arith

-- a measure of an element that stays as it is when another with the same measure takes its place
module _ {A : Type 0} (w : A → ℕ) (other x : A) where
  set-measure : (xs : List A) (k j : ℕ) → w x ≡ w (get_or xs k other) → w (get_or (set xs k x) j other) ≡ w (get_or xs j other)
  set-measure [] k j e = refl
  set-measure (y ∷ xs) zero zero e = e
  set-measure (y ∷ xs) zero (suc j) e = refl
  set-measure (y ∷ xs) (suc k) zero e = refl
  set-measure (y ∷ xs) (suc k) (suc j) e = set-measure xs k j e

  renumbered-measure : (xs : List A) (k j : ℕ) → w x ≡ w (numbered other xs k) → w (numbered other (renumbered xs k x) j) ≡ w (numbered other xs j)
  unfolding numbered renumbered
  renumbered-measure xs zero j e = refl
  renumbered-measure xs (suc k) zero e = refl
  renumbered-measure xs (suc k) (suc j) e = set-measure xs k j e

pub renumbered-length : {A : Type 0} (xs : List A) (k : ℕ) (x : A) → length (renumbered xs k x) ≡ length xs
unfolding renumbered
renumbered-length xs zero x = refl
renumbered-length xs (suc k) x = length-set xs k x

-- what every element of a list has, its element number k has
pub numbered-has : {A : Type 0} (P : A → Type 0) (xs : List A) (other : A) → P other → All P xs → (k : ℕ) → P (numbered other xs k)
unfolding numbered
numbered-has P xs other p a zero = p
numbered-has P [] other p a (suc k) = p
numbered-has P (x ∷ xs) other p a (suc zero) = a.0
numbered-has P (x ∷ xs) other p a (suc (suc k)) = numbered-has P xs other p a.1 (suc k)

-- ── networks ──
-- the bounds that the sizes come from
pub record Sized (N : Network) : Type 0 where
  pub station_count : length N.stations ≤ 512
  pub line_count : length N.lines ≤ 768
  pub minutes : N.head.minutes ≤ 1440
  pub customers : (s : ℕ) → customers_of N s ≤ 20000
  pub weight : (l : ℕ) → (numbered no_line N.lines l).weight ≤ 1000000

pub read-sized : (N : Network) → Read N → Sized N
unfolding customers_of
read-sized N r = record {
  station_count = omega (arith, r.station_count, r.head.stations.high);
  line_count = omega (arith, r.line_count, r.head.lines.high);
  minutes = r.head.minutes.high;
  customers = λ s. numbered-has (λ (t : Station). t.customers ≤ 20000) N.stations no_station (omega arith) (each N.stations r.stations) s;
  weight = λ l. numbered-has (λ (t : Line). t.weight ≤ 1000000) N.lines no_line (omega arith) (weights N.lines r.lines) l;
}
  where
    each : (ss : List Station) → All StationFits ss → All (λ (t : Station). t.customers ≤ 20000) ss
    each [] a = tt
    each (s ∷ ss) a = (a.0.customers.high, each ss a.1)

    weights : (ls : List Line) → All (LineFits (length N.stations)) ls → All (λ (t : Line). t.weight ≤ 1000000) ls
    weights [] a = tt
    weights (l ∷ ls) a = (a.0.weight.high, weights ls a.1)

breaker-sized : (N : Network) (p : Place) → Sized N → Sized (with_breaker N p)
unfolding with_breaker customers_of line_with_breaker
breaker-sized N p s = record {
  station_count = s.station_count;
  line_count = omega (arith, s.line_count, renumbered-length N.lines p.line (line_with_breaker p.side (numbered no_line N.lines p.line)));
  minutes = s.minutes;
  customers = s.customers;
  weight = λ l. omega (arith, s.weight l, renumbered-measure (λ (t : Line). t.weight) no_line (line_with_breaker p.side (numbered no_line N.lines p.line)) N.lines p.line l refl);
}

pub breakers-sized : (S : List ℕ) (N : Network) → Sized N → Sized (with_breakers N S)
unfolding with_breakers
breakers-sized [] N s = s
breakers-sized (p ∷ S) N s = breakers-sized S (with_breaker N (place_at N p)) (breaker-sized N (place_at N p) s)

module _ (N : Network) (s : Sized N) where
  pub customers_behind-size : (e : End) → customers_behind N e ≤ 10240000
  unfolding customers_behind station_numbers
  customers_behind-size e =
      let behind = keep (λ t. passes N e t) (numbers 1 (length N.stations)) in
      omega (arith, sum-most (λ t. customers_of N t) 20000 s.customers behind, keep-length (λ t. passes N e t) (numbers 1 (length N.stations)), numbers-length 1 (length N.stations), s.station_count)

  pub impact-size : (l : ℕ) → impact N l ≤ 10240000
  unfolding impact
  impact-size l = customers_behind-size (tripped N l)

  pub outage_amount-size : (l : ℕ) → outage_amount N l ≤ 10240000000000
  unfolding outage_amount
  outage_amount-size l = mul-le-mul (s.weight l) (impact-size l)

  pub total_size : total N ≤ 7864320000000000
  unfolding total line_numbers
  total_size = omega (arith, sum-most (λ l. outage_amount N l) 10240000000000 outage_amount-size (numbers 1 (length N.lines)), numbers-length 1 (length N.lines), s.line_count)

  pub figure-size : figure N ≤ 11324620800000000000
  unfolding figure
  figure-size = mul-le-mul s.minutes total_size

-- the total of any set of places, and any saving
pub set_total-size : (N : Network) → Sized N → (S : List ℕ) → set_total N S ≤ 7864320000000000
unfolding set_total
set_total-size N s S = total_size (with_breakers N S) (breakers-sized S N s)

pub saving-size : (N : Network) → Sized N → (p : ℕ) → saving N p ≤ 7864320000000000
unfolding saving
saving-size N s p = omega (arith, total_size N s)

-- the sum of the `r` largest of values up to `most`
insert-most : (most x : ℕ) (xs : List ℕ) → x ≤ most → All (λ y. y ≤ most) xs → All (λ y. y ≤ most) (insert x xs)
unfolding insert
insert-most most x [] h a = (h, tt)
insert-most most x (y ∷ ys) h a = go (leb y x) (insert-most most x ys h a.1)
  where
    go : (b : Bool) → All (λ y. y ≤ most) (insert x ys) → All (λ y. y ≤ most) (elim b as (λ z. List ℕ) [ true ↦ x ∷ y ∷ ys | false ↦ y ∷ insert x ys ])
    go true r = (h, a)
    go false r = (a.0, r)

pub falling-most : (most : ℕ) (xs : List ℕ) → All (λ y. y ≤ most) xs → All (λ y. y ≤ most) (falling xs)
unfolding falling
falling-most most [] a = tt
falling-most most (x ∷ xs) a = insert-most most x (falling xs) a.0 (falling-most most xs a.1)

pub take-most : (most r : ℕ) (xs : List ℕ) → All (λ y. y ≤ most) xs → sum (take r xs) ≤ r * most
unfolding sum
take-most most zero xs a = omega arith
take-most most (suc r) [] a = omega arith
take-most most (suc r) (x ∷ xs) a = omega (arith, a.0, take-most most r xs a.1)

-- the savings that the bound of the search adds up
pub largest_size : (N : Network) → Sized N → (r : ℕ) (places : List ℕ) → largest r (map (λ p. saving N p) places) ≤ r * 7864320000000000
unfolding largest
largest_size N s r places = take-most 7864320000000000 r (falling (map (λ p. saving N p) places)) (falling-most 7864320000000000 (map (λ p. saving N p) places) (each places))
  where
    each : (ps : List ℕ) → All (λ y. y ≤ 7864320000000000) (map (λ p. saving N p) ps)
    each [] = tt
    each (p ∷ ps) = (saving-size N s p, each ps)
