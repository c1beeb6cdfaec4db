-- The most breakers on the paths that meet each place first, line after line.
use Rattle.std.specs.Prelude.{IfSome}
use Prim.Native.Nat.{ℕ, zero, suc, ◌+◌, ◌≤◌, ◌<◌, max}
use mathlib.Core.Path.{◌≡◌, refl, sym, ap}
use mathlib.Core.Bool.{true}
use mathlib.Core.List.{List}
use native.Mathlib.Decide.{ℕ_discrete}
use native.Mathlib.Omega.{arith}
use lib.Dec.{eqb}
use lib.ListN.{length, get_or, set, replicate}
use lib.Seq.{get_or-set_same, get_or-set_other}
use borrow.Author.Tests.{eq-eqb, ne_eqb}
use Rattle.model.specs.Network.{Network}
use Rattle.model.specs.Rules.{breakers_on}
use Rattle.graphs.specs.Sum.{on}
use Rattle.savings.specs.Breakers.{end_at}
use Rattle.theory.specs.Best.{Accepted}
use Rattle.sets.specs.Stops.{first_place}
use Rattle.sets.specs.Sets.{route}
use Rattle.sets.specs.Apart.{place_ends}
use Rattle.sets.specs.Start.{own_in_series_at}
use Rattle.marks.specs.Held.{place_on}
use Rattle.paths.specs.Meets.{far_route}
use Rattle.starts.specs.Own.{far_place}
use Rattle.starts.specs.Held.{raised}
use Rattle.starts.proofs.Numbers.{most_from, most-first, most-none, most-all}
use Rattle.theory.specs.Gathering.{always}
use Rattle.network.specs.Found.{found}
use Rattle.starts.proofs.FirstPlaces.{own_of, own-in-series}

-- the largest value of all
abbrev pub largest : (ℕ → ℕ) → ℕ → ℕ → ℕ
largest f k end = most_from (λ k. true) f k end

-- `in-series` has the most of the lines up to l at each place: with the most of the lines from l on it is the most of all
abbrev pub Raised : Network → ℕ → List ℕ → ℕ → Type 0
Raised N end in-series l = (p : ℕ) → 1 ≤ p → max (get_or in-series p 0) (largest (own_of N p) l end) ≡ largest (own_of N p) 1 end

-- a number is raised to a value
raised_at : (in-series : List ℕ) (k v x p : ℕ) → k < length in-series → x ≡ max (get_or in-series k 0) v → get_or (set in-series k x) p 0 ≡ max (get_or in-series p 0) (on (eqb k p) v)
raised_at in-series k v x p h e = go (ℕ_discrete p k)
  where
    go : Dec (p ≡ k) → get_or (set in-series k x) p 0 ≡ max (get_or in-series p 0) (on (eqb k p) v)
    go (yes q) = omega (arith, ap (λ j. get_or (set in-series k x) j 0) q, get_or-set_same in-series k x 0 h, ap (λ j. get_or in-series j 0) q, ap (λ b. on b v) (eq-eqb k p (sym q)))
    go (no q) = omega (arith, get_or-set_other in-series k p x 0 q, ap (λ b. on b v) (ne_eqb k p (λ e. q (sym e))))

-- the number of a place that there may be is raised to a value
pub raised-is : (in-series : List ℕ) (k v p : ℕ) → k < length in-series → 1 ≤ p → get_or (raised in-series (found k) v) p 0 ≡ max (get_or in-series p 0) (on (eqb k p) v)
raised-is in-series zero v p h i = omega (arith, ap (λ b. on b v) (ne_eqb 0 p (λ e. omega arith)))
raised-is in-series (suc k) v p h i = raised_at in-series (suc k) v _ p h refl

module _ (N : Network) where
  pub raised-none : (end n : ℕ) → Raised N end (replicate n 0) 1
  raised-none end n p i = omega (arith, always {A = ℕ} 0 n p)

  -- one line more, and the station that it feeds
  pub raised-more : (end : ℕ) (in-series next : List ℕ) (l j k m n : ℕ) → l < end → j < length in-series → k < length next
      → j ≡ place_on N (first_place (place_ends N) (route N l)) → m ≡ breakers_on N (route N l) → k ≡ far_place N l → n ≡ breakers_on N (far_route N l)
      → next ≡ raised in-series (found j) m → Raised N end in-series l → Raised N end (raised next (found k) n) (l + 1)
  raised-more end in-series next l j k m n b hj hk ej em ek en ex g p i =
      let first : on (eqb j p) m ≡ on (eqb (place_on N (first_place (place_ends N) (route N l))) p) (breakers_on N (route N l)) = λ i. on (eqb (ej i) p) (em i) in
      let beyond : on (eqb k p) n ≡ on (eqb (far_place N l) p) (breakers_on N (far_route N l)) = λ i. on (eqb (ek i) p) (en i) in
      omega (
        arith,
        g p i,
        most-first (λ k. true) (own_of N p) l end b,
        ap (λ xs. get_or xs p 0) ex,
        raised-is in-series j m p hj i,
        raised-is next k n p hk i,
      )

  -- all lines
  pub raised_all : Accepted N → (end : ℕ) → end ≡ length N.lines + 1 → (in-series : List ℕ) (l : ℕ) → end ≤ l → Raised N end in-series l
      → (p : ℕ) → 1 ≤ p → p ≤ length N.places → get_or in-series p 0 ≡ own_in_series_at N (end_at N p)
  raised_all a end n in-series l b g p i j = omega (
    arith,
    g p i,
    most-none (λ k. true) (own_of N p) l end b,
    ap (largest (own_of N p) 1) n,
    most-all (λ k. true) (own_of N p) (length N.lines),
    own-in-series N a p i j,
  )

-- the place of an option that is at most 64
pub few-some : (n : ℕ) → n ≤ 64 → IfSome (found n) (λ p. p ≤ 64)
few-some zero h = tt
few-some (suc n) h = h
