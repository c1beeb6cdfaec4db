-- The breaker upstream of a place of an accepted file: it is a closed end, and no fewer customers are behind it.
use Prim.Native.Nat.{ℕ, ◌+◌, ◌≤◌}
use mathlib.Core.Path.{◌≡◌, refl, sym, ap, ◌∙◌, subst}
use mathlib.Core.Bool.{Bool, true, false, ◌||◌, true≢false}
use mathlib.Core.Logic.{⊎_elim}
use mathlib.Core.List.Memᴰ
use mathlib.Core.List.{List, [], ◌∷◌, Memᴰ}
use native.Mathlib.Omega.{arith}
use lib.ListN.{length}
use Rattle.model.specs.Lists.{any, first_or}
use Rattle.model.specs.Network.{Network}
use Rattle.model.specs.Paths.{Vertex, station, line, End, same_end, is_breaker, is_open, station_at}
use Rattle.model.specs.Outage.{path_to_hv, no_end, customers_behind}
use Rattle.model.specs.Sets.{place_numbers}
use Rattle.graphs.specs.Graph.{Fresh}
use Rattle.savings.specs.Facts.{or_left, or_cases, any-mono, same_end-eq}
use Rattle.savings.specs.First.{this, first-mono}
use Rattle.savings.specs.Tree.{rising-path}
use Rattle.savings.specs.Breakers.{end_at, Valid}
use Rattle.savings.specs.Totals.{breakers_with}
use Rattle.theory.specs.Ends.{breaker-closed, closed-end}
use Rattle.theory.specs.Radial.{In, station-in}
use Rattle.theory.specs.Forest.{end-first, tree}
use Rattle.theory.specs.Best.{Accepted, place-closed}
use Rattle.tree.specs.Outwards.{first_end, near_end}
use Rattle.outage.proofs.Paths.{behind-line}
use Rattle.sets.specs.Ways.{has, Way}
use Rattle.sets.specs.Onward.{onward, way, upstream-line}
use Rattle.sets.specs.Sets.{upstream_at}
use Rattle.sets.specs.Apart.{place-free}
use Rattle.starts.proofs.OnEnds.{place_in}
use Rattle.prospects.specs.Chosen.{Before}

-- the first that passes a test, where one does
first_passes : (B : End → Bool) (es : List End) → any B es ≡ true → B (first_or no_end B es) ≡ true
unfolding first_or any
first_passes B [] h = absurd (true≢false (sym h))
first_passes B (e ∷ es) h = go (B e) refl h (first_passes B es)
  where
    go : (b : Bool) → B e ≡ b → (b || any B es) ≡ true → (any B es ≡ true → B (first_or no_end B es) ≡ true) → B (this b e (first_or no_end B es)) ≡ true
    go true q h ih = q
    go false q h ih = ih h

first-end : (es : List End) → first_or no_end (λ d. true) es ≡ first_end es
unfolding first_or first_end
first-end [] = refl
first-end (e ∷ es) = refl

module _ (N : Network) (a : Accepted N) where
  pub end-closed : (p : ℕ) → 1 ≤ p → p ≤ length N.places → is_open N (end_at N p) ≡ false
  end-closed p l h = place-closed N a p (place_in N p l h)

  -- the places before one: they are on closed ends, and none of them is on its end
  pub before-valid : (q : ℕ) → q ≤ length N.places + 1 → (S : List ℕ) → Before q S → Valid N S
  before-valid q h [] b = tt
  before-valid q h (p ∷ S) b = (end-closed p b.0.0 (omega (arith, b.0.1)), before-valid q h S b.1)

  pub before-free : (q : ℕ) → 1 ≤ q → q ≤ length N.places → (S : List ℕ) → Before q S → breakers_with N S (end_at N q) ≡ false
  before-free q l h S b = place-free N a q (place_in N q l h) S (within S b) (fresh S b)
    where
      within : (S : List ℕ) → Before q S → (p : ℕ) → Memᴰ p S → Memᴰ p (place_numbers N)
      within [] b p m = absurd (Memᴰ.not-nil m)
      within (s ∷ S) b p m = ⊎_elim (λ e. subst (λ k. Memᴰ k (place_numbers N)) (sym e) (place_in N s b.0.0 (omega (arith, b.0.1)))) (λ k. within S b.1 p k) (Memᴰ.cases_cons m)

      fresh : (S : List ℕ) → Before q S → Fresh q S
      fresh [] b = tt
      fresh (s ∷ S) b = (λ e. omega (arith, b.0.1), fresh S b.1)

  -- a closed end is not on the path onward from it
  pub onward-once : (e : End) → is_open N e ≡ false → has e (onward N e) ≡ false
  onward-once e c =
      let x = closed-end N e c in
      ⊎_elim (λ p. at (line e.line) (x.0, x.1) (path_to_hv N (station (station_at N e))) p) (λ p. at (station (station_at N e)) (station-in N a.read e x.0 x.1) (path_to_hv N (line e.line)) p) (end-first N a.read a.rules e c)
    where
      at : (v : Vertex) → In N v → (es : List End) → path_to_hv N v ≡ e ∷ es → has e (onward N e) ≡ false
      at v i es p = let w = subst (Way (onward N)) p (way N a.read a.rules v i) in ap (has e) (sym w.0) ∙ w.1

  -- an end that has no breaker with a set
  module _ (S : List ℕ) (v : Valid N S) (e : End) (c : is_open N e ≡ false) (f : breakers_with N S e ≡ false) where
    abbrev B : End → Bool
    B = breakers_with N S

    abbrev l : ℕ
    l = e.line

    there : (1 ≤ l) × (l ≤ length N.lines)
    there = let y = closed-end N e c in (y.0, y.1)

    trips : any B (path_to_hv N (line l)) ≡ true
    trips = any-mono (λ e. is_breaker N e) B (path_to_hv N (line l)) (λ e. or_left (is_breaker N e) _) ((tree N a.read a.rules).trips l there.0 there.1)

    pub upstream-closed : is_open N (upstream_at N S e) ≡ false
    unfolding any
    upstream-closed = closed_of (upstream_at N S e) (ap B (upstream-line N B e f) ∙ first_passes B (path_to_hv N (line l)) trips)
      where
        among : (S : List ℕ) → Valid N S → (d : End) → any (λ p. same_end d (end_at N p)) S ≡ true → is_open N d ≡ false
        among [] v d h = absurd (true≢false (sym h))
        among (p ∷ S) v d h = or_cases (same_end d (end_at N p)) _ (λ s. ap (is_open N) (same_end-eq d (end_at N p) s) ∙ v.0) (λ k. among S v.1 d k) h

        closed_of : (d : End) → B d ≡ true → is_open N d ≡ false
        closed_of d h = or_cases (is_breaker N d) _ (breaker-closed N d) (among S v d) h

    -- no fewer customers are behind its upstream breaker
    pub behind-upstream : customers_behind N e ≤ customers_behind N (upstream_at N S e)
    unfolding near_end
    behind-upstream = omega (
      arith,
      behind-line N a.read a.rules e c ∙ ap (customers_behind N) (sym (first-end (path_to_hv N (line l)))),
      ap (customers_behind N) (upstream-line N B e f),
      first-mono (λ d. customers_behind N d) no_end B (λ d. true) (path_to_hv N (line l)) (rising-path N (tree N a.read a.rules) l there.0 there.1) trips (λ d h. refl),
    )
