-- The most breakers in series, by the paths of the stations that the lines feed, and the series rule.
use Prim.Native.Nat.{ℕ, suc, ◌+◌, ◌≤◌, ◌<◌}
use mathlib.Core.Path.{◌≡◌, refl, sym, ap, ◌∙◌}
use mathlib.Core.Bool.{Bool, true, false, true≢false}
use mathlib.Core.Logic.{⊎_elim}
use mathlib.Core.List.{[]}
use native.Mathlib.Decide.{ℕ_discrete}
use native.Mathlib.Omega.{arith}
use lib.Dec.{ltb}
use lib.ListN.{length}
use borrow.Author.Tests.{ltb-true, ltb-false}
use Rattle.model.specs.Network.{Network}
use Rattle.model.specs.Paths.{Vertex, station, line, is_breaker, station_at}
use Rattle.model.specs.Rules.{breakers_on, series_broken}
use Rattle.model.specs.Outage.{path_to_hv}
use Rattle.graphs.specs.Sum.{on}
use Rattle.theory.specs.Reading.{Read}
use Rattle.theory.specs.Sizes.{keep-length}
use Rattle.theory.specs.Ends.{breaker-closed, closed-end}
use Rattle.theory.specs.Radial.{Rules, In, listed-vertex, station-in}
use Rattle.theory.specs.Above.{breakers-count, series-above}
use Rattle.theory.specs.Behind.{far, vertices, listed_in}
use Rattle.network.specs.There.{LineThere}
use Rattle.tree.specs.Held.{near_in, HoldsNears}
use Rattle.tree.specs.declared.Tree.{Tree}
use Rattle.tree.specs.Outwards.{near_end}
use Rattle.tree.proofs.Near.{hv-or-fed}
use Rattle.sets.specs.InSeries.{most, most-of, most-less}
use Rattle.sets.specs.Sets.{route}
use Rattle.paths.specs.Held.{count_in, HoldsCounts}
use Rattle.paths.specs.declared.Paths.{Paths}
use Rattle.paths.specs.Meets.{far_route}
use Rattle.series.specs.Series.{most_in_series}
use Rattle.paths.proofs.FarEnds.{far-path, fed-path}
use Rattle.paths.proofs.Meeting.{breakers-next}
use Rattle.paths.proofs.Passing.{route-short}

-- a bound on the values up to k, raised
pub upto-more : (f : ℕ → ℕ) (k most next : ℕ) → ((l : ℕ) → 1 ≤ l → l < k → f l ≤ most) → most ≤ next → f k ≤ next → (l : ℕ) → 1 ≤ l → l < k + 1 → f l ≤ next
upto-more f k most next h a b l i j = go (ℕ_discrete l k)
  where
    go : Dec (l ≡ k) → f l ≤ next
    go (yes q) = omega (arith, b, ap f q)
    go (no q) = omega (arith, h l i (omega arith), a)

module _ (N : Network) (d : Read N) (r : Rules N) where
  of-vertex : (v : Vertex) → In N v → breakers_on N (path_to_hv N v) ≤ most_in_series N
  of-vertex v i = most-of (λ v. true) (λ v. breakers_on N (path_to_hv N v)) (vertices N) v (listed-vertex N d v i) refl

  -- no line's far station has more
  pub far_within : (l : ℕ) → 1 ≤ l → l ≤ length N.lines → breakers_on N (far_route N l) ≤ most_in_series N
  far_within l i j = go (is_breaker N (far (near_end N l))) refl
    where
      go : (b : Bool) → is_breaker N (far (near_end N l)) ≡ b → breakers_on N (far_route N l) ≤ most_in_series N
      go true b =
          let c = breaker-closed N (far (near_end N l)) b in
          let x = closed-end N (far (near_end N l)) c in
          omega (arith, ap (breakers_on N) (far-path N d r l i j c), of-vertex (station (station_at N (far (near_end N l)))) (station-in N d (far (near_end N l)) x.0 x.1))
      go false b = let z : on (is_breaker N (far (near_end N l))) 1 ≡ 0 = ap (λ t. on t 1) b in omega (arith, z, breakers-next N (far (near_end N l)) (route N l), of-vertex (line l) (i, j))

  -- and one of them has as many
  pub none_above : (n : ℕ) → ((l : ℕ) → 1 ≤ l → l ≤ length N.lines → breakers_on N (far_route N l) ≤ n) → most_in_series N ≤ n
  none_above n h = omega (arith, most-less (λ v. true) (λ v. breakers_on N (path_to_hv N v)) (suc n) (omega arith) (vertices N) (λ v m _. omega (arith, within v (listed_in N v m))))
    where
      of-line : (l : ℕ) → 1 ≤ l → l ≤ length N.lines → breakers_on N (route N l) ≤ n
      of-line l i j = omega (arith, h l i j, breakers-next N (far (near_end N l)) (route N l))

      within : (v : Vertex) → In N v → breakers_on N (path_to_hv N v) ≤ n
      within (line l) i = of-line l i.0 i.1
      within (station s) i = ⊎_elim
          (λ x. omega (arith, ap (breakers_on N) x.1, breakers-count N []))
          (λ x. let y = closed-end N x.0 x.1.closed in omega (arith, ap (breakers_on N) (fed-path N d r s x.0 x.1), h x.0.line y.0 y.1))
          (hv-or-fed N d r s i)

  -- the series rule compares it
  pub series-most : series_broken N ≡ ltb N.head.series (most_in_series N)
  series-most = go (series_broken N) refl (ltb N.head.series (most_in_series N)) refl
    where
      kept : most_in_series N ≤ N.head.series → series_broken N ≡ false
      kept h = (series-above N d r).1 (λ v i. omega (arith, h, of-vertex v i))

      go : (a : Bool) → series_broken N ≡ a → (b : Bool) → ltb N.head.series (most_in_series N) ≡ b → a ≡ b
      go true p true q = refl
      go false p false q = refl
      go true p false q = absurd (true≢false (sym p ∙ kept (omega (arith, ltb-false N.head.series (most_in_series N) q))))
      go false p true q = absurd (omega (
        arith,
        ltb-true N.head.series (most_in_series N) q,
        most-less (λ v. true) (λ v. breakers_on N (path_to_hv N v)) (suc N.head.series) (omega arith) (vertices N) (λ v m _. omega (arith, (series-above N d r).0 p v (listed_in N v m))),
      ))

-- ── by the tree and the paths ──
module _ (N : Network) (t : Tree) (p : Paths) (d : Read N) (r : Rules N) (o : HoldsNears N t) (h : HoldsCounts N p) (l : ℕ) (a : LineThere N l) where
  pub count-few : count_in p l ≤ 1536
  unfolding breakers_on
  count-few = omega (arith, h l a, keep-length (λ e. is_breaker N e) (route N l), route-short N d r l a.low a.high)

  -- the breakers on the line's path, and the far end if that is one
  counted : breakers_on N (far_route N l) ≡ on (is_breaker N (far (near_in t l))) 1 + count_in p l
  counted = omega (arith, breakers-next N (far (near_end N l)) (route N l), ap (λ e. on (is_breaker N (far e)) 1) (o l a), h l a)

  pub counted-far : is_breaker N (far (near_in t l)) ≡ true → count_in p l + 1 ≡ breakers_on N (far_route N l)
  counted-far s = let o : on (is_breaker N (far (near_in t l))) 1 ≡ 1 = ap (λ b. on b 1) s in omega (arith, counted, o)

  pub counted-line : is_breaker N (far (near_in t l)) ≡ false → count_in p l ≡ breakers_on N (far_route N l)
  counted-line s = let o : on (is_breaker N (far (near_in t l))) 1 ≡ 0 = ap (λ b. on b 1) s in omega (arith, counted, o)
