-- In a tree the customers behind an end do not fall along a line's path to the HV station.
use Rattle.std.specs.Prelude.{ℕ, zero, suc, ◌+◌, ◌≤◌, ◌<◌, Bool, true, false, ◌||◌, ◌≡◌, refl, length}
use Rattle.std.proofs.lemmas.Bool.{false≢true}
use mathlib.Core.List.{List, [], ◌∷◌, ◌++◌, map}
use Rattle.std.proofs.Common.{sym, ◌∙◌, arith}
use Rattle.std.proofs.Math.Path.{ap}
use Rattle.std.proofs.Math.Seq.{append_snoc}
use Rattle.model.specs.Lists.{any, keep, numbers, sum}
use Rattle.model.specs.Network.{Network}
use Rattle.model.specs.Paths.{station, line, End, same_end, is_breaker, station_numbers, customers_of}
use Rattle.model.specs.Outage.{path_to_hv, passes, customers_behind}
use Rattle.savings.specs.Facts.{or_cases, or_left, or_right, any_append, same_end-eq, same_end-refl}
use Rattle.savings.specs.First.{Above, Rising}

-- from an end on, a station's path to the HV station and a line's are the same; and a breaker trips for a fault on each line
pub record Tree (N : Network) : Type 0 where
  pub onward : (t l : ℕ) → 1 ≤ t → t ≤ length N.stations → 1 ≤ l → l ≤ length N.lines
      → (e : End) (xs ys xs' ys' : List End) → path_to_hv N (station t) ≡ xs ++ e ∷ ys → path_to_hv N (line l) ≡ xs' ++ e ∷ ys' → ys ≡ ys'
  pub trips : (l : ℕ) → 1 ≤ l → l ≤ length N.lines → any (λ e. is_breaker N e) (path_to_hv N (line l)) ≡ true

-- a list that has an end, parted at it
parted : (e : End) (es : List End) → any (λ d. same_end d e) es ≡ true → (xs : List End) × (ys : List End) × (es ≡ xs ++ e ∷ ys)
unfolding any
parted e [] h = absurd (false≢true h)
parted e (d ∷ es) h = or_cases (same_end d e) (any (λ x. same_end x e) es)
    (λ q. ([], es, λ i. same_end-eq d e q i ∷ es)) (λ q. let r = parted e es q in (d ∷ r.0, r.1, ap (λ l. d ∷ l) r.2)) h

-- a list passes a test that a later part of it passes
any-later : {A : Type 0} (test : A → Bool) (xs : List A) (e : A) (ys : List A) → any test ys ≡ true → any test (xs ++ e ∷ ys) ≡ true
unfolding any
any-later test xs e ys h = any_append test xs (e ∷ ys) ∙ or_right (any test xs) (test e || any test ys) (or_right (test e) (any test ys) h)

-- a sum over more of the numbers is no smaller
keep-sum : (c : ℕ → ℕ) (p q : ℕ → Bool) (n k : ℕ) → ((t : ℕ) → n ≤ t → t < n + k → p t ≡ true → q t ≡ true)
    → sum (map c (keep p (numbers n k))) ≤ sum (map c (keep q (numbers n k)))
unfolding sum keep numbers
keep-sum c p q n zero h = omega arith
keep-sum c p q n (suc k) h =
    go (p n) (q n) (h n (omega arith) (omega arith)) (keep p rest) (keep q rest) (keep-sum c p q (n + 1) k (λ t a b. h t (omega arith) (omega arith)))
  where
    rest : List ℕ
    rest = numbers (n + 1) k

    go : (a b : Bool) → (a ≡ true → b ≡ true) → (xs ys : List ℕ) → sum (map c xs) ≤ sum (map c ys)
        → sum (map c (elim a as (λ x. List ℕ) [ true ↦ n ∷ xs | false ↦ xs ])) ≤ sum (map c (elim b as (λ x. List ℕ) [ true ↦ n ∷ ys | false ↦ ys ]))
    go true true j xs ys ih = omega arith
    go true false j xs ys ih = absurd (false≢true (j refl))
    go false true j xs ys ih = omega arith
    go false false j xs ys ih = ih

module _ (N : Network) (R : Tree N) (l : ℕ) (l1 : 1 ≤ l) (ln : l ≤ length N.lines) where
  -- a station whose path passes an end of the line's path passes each later end of it
  passes_on : (e d : End) (xs ys : List End) → path_to_hv N (line l) ≡ xs ++ e ∷ ys → any (λ x. same_end x d) ys ≡ true
      → (t : ℕ) → 1 ≤ t → t ≤ length N.stations → passes N e t ≡ true → passes N d t ≡ true
  unfolding passes
  passes_on e d xs ys q m t t1 tn h =
      let r = parted e (path_to_hv N (station t)) h in
      let o : r.1 ≡ ys = R.onward t l t1 tn l1 ln e r.0 r.1 xs ys r.2 q in
      ap (any (λ x. same_end x d)) r.2 ∙ any-later (λ x. same_end x d) r.0 e r.1 (ap (any (λ x. same_end x d)) o ∙ m)

  -- so no fewer customers are behind each later end
  behind-on : (e d : End) (xs ys : List End) → path_to_hv N (line l) ≡ xs ++ e ∷ ys → any (λ x. same_end x d) ys ≡ true → customers_behind N e ≤ customers_behind N d
  unfolding customers_behind station_numbers
  behind-on e d xs ys q m = keep-sum (λ s. customers_of N s) (λ s. passes N e s) (λ s. passes N d s) 1 (length N.stations)
      (λ t a b h. passes_on e d xs ys q m t a (omega arith) h)

  -- a bound on the customers behind each end of a list
  above-all : (n : ℕ) (ys : List End) → ((d : End) → any (λ x. same_end x d) ys ≡ true → n ≤ customers_behind N d) → Above (λ e. customers_behind N e) n ys
  unfolding any
  above-all n [] h = tt
  above-all n (y ∷ ys) h =
      (h y (or_left (same_end y y) (any (λ x. same_end x y) ys) (same_end-refl y)), above-all n ys (λ d m. h d (or_right (same_end y d) (any (λ x. same_end x d) ys) m)))

  rising-from : (xs ys : List End) → path_to_hv N (line l) ≡ xs ++ ys → Rising (λ e. customers_behind N e) ys
  rising-from xs [] q = tt
  rising-from xs (e ∷ ys) q =
      (above-all (customers_behind N e) ys (λ d m. behind-on e d xs ys q m), rising-from (xs ++ (e ∷ [])) ys (q ∙ sym (append_snoc xs e ys)))

  pub rising-path : Rising (λ e. customers_behind N e) (path_to_hv N (line l))
  rising-path = rising-from [] (path_to_hv N (line l)) refl
