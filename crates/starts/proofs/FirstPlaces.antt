-- The most breakers on a path of a line or a station whose first place is a given one, line after line: every station that is not
-- an HV station is fed by a line, and its path is that line's from the far end on.
use Prim.Native.Nat.{ℕ, suc, ◌≤◌, max}
use mathlib.Core.Path.{◌≡◌, refl, sym, ap, ◌∙◌, fun_ext}
use mathlib.Core.Bool.{Bool, true, false, or-false}
use mathlib.Core.List.{List, [], ◌∷◌, Memᴰ}
use native.Mathlib.Omega.{arith}
use lib.Dec.{eqb}
use lib.ListN.{length}
use borrow.Author.Tests.{eqb-true}
use Rattle.model.specs.Lists.{any, first_or}
use Rattle.model.specs.Network.{Network}
use Rattle.model.specs.Paths.{Vertex, station, line, End, same_end, is_breaker, is_open, station_at}
use Rattle.model.specs.Rules.{breakers_on}
use Rattle.model.specs.Outage.{path_to_hv, no_end}
use Rattle.graphs.specs.Sum.{on}
use Rattle.graphs.specs.Tree.{count_of}
use Rattle.savings.specs.Facts.{same_end-eq}
use Rattle.savings.specs.Breakers.{end_at}
use Rattle.savings.specs.Totals.{breakers_with}
use Rattle.theory.specs.Ends.{closed-end, in-numbers, numbers-in}
use Rattle.theory.specs.Radial.{In, listed-vertex, station-in}
use Rattle.theory.specs.Above.{breakers-count}
use Rattle.theory.specs.Behind.{vertices, listed_in}
use Rattle.theory.specs.Best.{Accepted, place-closed}
use Rattle.tree.proofs.Near.{far-begins}
use Rattle.sets.specs.InSeries.{most, most-of, most-less}
use Rattle.sets.specs.Stops.{first_place}
use Rattle.sets.specs.Sets.{route, lines}
use Rattle.sets.specs.Apart.{place_ends}
use Rattle.sets.specs.Start.{own_in_series_at}
use Rattle.marks.specs.Held.{place_on}
use Rattle.paths.specs.Meets.{far_route}
use Rattle.paths.proofs.FarEnds.{far-path, fed-path}
use Rattle.starts.specs.Own.{far_end, far_place}
use Rattle.starts.proofs.OnEnds.{place_in, on-is}

-- the breakers on a path are those of the network with no place chosen
pub no-places : (N : Network) (es : List End) → count_of (breakers_with N []) es ≡ breakers_on N es
unfolding any
no-places N es = ap (λ B. count_of B es) (fun_ext (λ e. or-false (is_breaker N e))) ∙ sym (breakers-count N es)

-- what a line and the station that it feeds have at place p
abbrev pub own_of : Network → ℕ → ℕ → ℕ
own_of N p l = max (on (eqb (place_on N (first_place (place_ends N) (route N l))) p) (breakers_on N (route N l))) (on (eqb (far_place N l) p) (breakers_on N (far_route N l)))

module _ (N : Network) (a : Accepted N) (l : ℕ) (i : 1 ≤ l) (j : l ≤ length N.lines) where
  far-listed : is_open N (far_end N l) ≡ false → Memᴰ (station (station_at N (far_end N l))) (vertices N)
  far-listed c = let x = closed-end N (far_end N l) c in listed-vertex N a.read (station (station_at N (far_end N l))) (station-in N a.read (far_end N l) x.0 x.1)

module _ (N : Network) (a : Accepted N) (p : ℕ) (i : 1 ≤ p) (j : p ≤ length N.places) where
  -- the first place on a path is p
  first-is : (es : List End) → eqb (place_on N (first_place (place_ends N) es)) p ≡ same_end (end_at N p) (first_place (place_ends N) es)
  first-is es = on-is N a p i j (first_place (place_ends N) es)

  -- no place is on an end that is not there
  not_there : same_end (end_at N p) no_end ≡ true → ⊥
  not_there h = let x = closed-end N (end_at N p) (place-closed N a p (place_in N p i j)) in omega (arith, x.0, ap (λ (e : End). e.line) (same_end-eq (end_at N p) no_end h))

  abbrev test : Vertex → Bool
  test v = same_end (end_at N p) (first_place (place_ends N) (path_to_hv N v))

  abbrev count : Vertex → ℕ
  count v = count_of (breakers_with N []) (path_to_hv N v)

  -- a station or line whose first place is p
  least : (v : Vertex) → Memᴰ v (vertices N) → test v ≡ true → count v ≤ most (λ l. true) (own_of N p) (lines N)
  unfolding first_or
  least (line l) m h =
      let k = listed_in N (line l) m in
      omega (
        arith,
        most-of (λ l. true) (own_of N p) (lines N) l (in-numbers l 1 (length N.lines) k.0 (omega (arith, k.1))) refl,
        no-places N (route N l),
        ap (λ b. on b (breakers_on N (route N l))) (first-is (route N l) ∙ h),
      )
  least (station s) m h = go (path_to_hv N (station s)) refl
    where
      k : In N (station s)
      k = listed_in N (station s) m

      go : (es : List End) → path_to_hv N (station s) ≡ es → count (station s) ≤ most (λ l. true) (own_of N p) (lines N)
      go [] e = absurd (not_there (ap (λ es. same_end (end_at N p) (first_place (place_ends N) es)) (sym e) ∙ h))
      go (f ∷ fs) e =
          let t = far-begins N a.read a.rules s k f fs e in
          let x = closed-end N f t.closed in
          let q : path_to_hv N (station s) ≡ far_route N f.line = fed-path N a.read a.rules s f t in
          let o : is_open N (far_end N f.line) ≡ false = ap (is_open N) (sym t.is-far) ∙ t.closed in
          let r : far_place N f.line ≡ place_on N (first_place (place_ends N) (far_route N f.line))
          = ap (λ b. elim b as (λ _. ℕ) [ true ↦ 0 | false ↦ place_on N (first_place (place_ends N) (far_route N f.line)) ]) o in
          omega (
            arith,
            most-of (λ l. true) (own_of N p) (lines N) f.line (in-numbers f.line 1 (length N.lines) x.0 (omega (arith, x.1))) refl,
            no-places N (path_to_hv N (station s)),
            ap (breakers_on N) q,
            ap (λ b. on b (breakers_on N (far_route N f.line)))
                (ap (λ k. eqb k p) r ∙ first-is (far_route N f.line) ∙ ap (λ es. same_end (end_at N p) (first_place (place_ends N) es)) (sym q) ∙ h),
          )

  -- a line, and the station that it feeds
  pub own-in-series : own_in_series_at N (end_at N p) ≡ most (λ l. true) (own_of N p) (lines N)
  own-in-series = omega (
    arith,
    most-less test count (suc (most (λ l. true) (own_of N p) (lines N))) (omega arith) (vertices N) (λ v m h. omega (arith, least v m h)),
    most-less (λ l. true) (own_of N p) (suc (own_in_series_at N (end_at N p))) (omega arith) (lines N) (λ l m _.
        let k = numbers-in l 1 (length N.lines) m in
        omega (arith, by-line l k.0 (omega (arith, k.1)), by-station l k.0 (omega (arith, k.1)))),
  )
    where
      by-line : (l : ℕ) → 1 ≤ l → l ≤ length N.lines → on (eqb (place_on N (first_place (place_ends N) (route N l))) p) (breakers_on N (route N l)) ≤ own_in_series_at N (end_at N p)
      by-line l x y = go (eqb (place_on N (first_place (place_ends N) (route N l))) p) refl
        where
          go : (b : Bool) → eqb (place_on N (first_place (place_ends N) (route N l))) p ≡ b → on b (breakers_on N (route N l)) ≤ own_in_series_at N (end_at N p)
          go true h = omega (arith, no-places N (route N l), most-of test count (vertices N) (line l) (listed-vertex N a.read (line l) (x, y)) (sym (first-is (route N l)) ∙ h))
          go false h = omega arith

      by-station : (l : ℕ) → 1 ≤ l → l ≤ length N.lines → on (eqb (far_place N l) p) (breakers_on N (far_route N l)) ≤ own_in_series_at N (end_at N p)
      by-station l x y = go (is_open N (far_end N l)) refl
        where
          found : is_open N (far_end N l) ≡ false → (b : Bool) → eqb (place_on N (first_place (place_ends N) (far_route N l))) p ≡ b → on b (breakers_on N (far_route N l)) ≤ own_in_series_at N (end_at N p)
          found c true h =
              let q = far-path N a.read a.rules l x y c in
              omega (
                arith,
                no-places N (path_to_hv N (station (station_at N (far_end N l)))),
                ap (breakers_on N) q,
                most-of test count (vertices N) (station (station_at N (far_end N l))) (far-listed N a l x y c)
                    (ap (λ es. same_end (end_at N p) (first_place (place_ends N) es)) q ∙ sym (first-is (far_route N l)) ∙ h),
              )
          found c false h = omega arith

          go : (b : Bool) → is_open N (far_end N l) ≡ b
              → on (eqb (elim b as (λ _. ℕ) [ true ↦ 0 | false ↦ place_on N (first_place (place_ends N) (far_route N l)) ]) p) (breakers_on N (far_route N l)) ≤ own_in_series_at N (end_at N p)
          go true c = none (eqb 0 p) refl
            where
              none : (b : Bool) → eqb 0 p ≡ b → on b (breakers_on N (far_route N l)) ≤ own_in_series_at N (end_at N p)
              none true e = absurd (omega (arith, eqb-true 0 p e))
              none false e = omega arith
          go false c = found c (eqb (place_on N (first_place (place_ends N) (far_route N l))) p) refl
