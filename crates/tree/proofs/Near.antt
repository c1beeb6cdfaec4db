-- The near end of a line and the line that feeds it, on the paths to the HV stations.
use Prim.Native.Nat.{ℕ, ◌≤◌}
use mathlib.Core.Path.{◌≡◌, refl, sym, ap, ◌∙◌, subst}
use mathlib.Core.Bool.{true, false, true≢false}
use mathlib.Core.Logic.{◌⊎◌, inl, inr, ⊎_elim}
use mathlib.Core.List.{List, [], ◌∷◌}
use native.Mathlib.Omega.{arith}
use lib.ListN.{length}
use Rattle.model.specs.Network.{Network}
use Rattle.model.specs.Paths.{Vertex, station, line, End, is_open, station_at, is_hv, at_hv}
use Rattle.model.specs.Outage.{path_to_hv}
use Rattle.graphs.specs.Graph.{Walk, stop}
use Rattle.graphs.specs.Tree.{Home, home-tail}
use Rattle.theory.specs.Reading.{Read}
use Rattle.theory.specs.Ends.{Joins, out, into, closed-end}
use Rattle.theory.specs.Radial.{Rules, In, Root, station-in, root_in}
use Rattle.theory.specs.Forest.{path-home, path-only, path-next, end-first, end-first-once, line-path, last-breaker}
use Rattle.theory.specs.Behind.{far, far-not, side-of, other-end}
use Rattle.tree.specs.Outwards.{first_end, near_end, second_line, feeder}
use Rattle.tree.specs.Feeding.{Near, FarEnd, Fed, by_hv, by_line, Feeds}

module _ (N : Network) where
  -- what begins a line's path is its near end
  pub near-is : (l : ℕ) (e : End) (es : List End) → path_to_hv N (line l) ≡ e ∷ es → near_end N l ≡ e
  unfolding near_end first_end
  near-is l e es p = ap first_end p

  pub feeder-none : (l : ℕ) (e : End) → path_to_hv N (line l) ≡ e ∷ [] → feeder N l ≡ 0
  unfolding feeder second_line
  feeder-none l e p = ap second_line p

  pub feeder-is : (l : ℕ) (e f : End) (es : List End) → path_to_hv N (line l) ≡ e ∷ f ∷ es → feeder N l ≡ f.line
  unfolding feeder second_line
  feeder-is l e f es p = ap second_line p

module _ (N : Network) (d : Read N) (r : Rules N) where
  -- what the first end of a path joins
  first-joins : {v : Vertex} {e : End} {es : List End} → In N v → path_to_hv N v ≡ e ∷ es → (w : Vertex) × Joins N e v w
  first-joins {v} i p = let h = home-tail (subst (Home (Joins N) (Root N) v) p (path-home N d r v i)) in (h.0, h.1)

  pub near-end : (l : ℕ) → In N (line l) → Near N l (near_end N l)
  near-end l i = let p = line-path N d r l i in subst (Near N l) (sym (near-is N l p.0 p.1 p.2)) (go p.0 p.1 p.2 (first-joins i p.2))
    where
      go : (e : End) (es : List End) → path_to_hv N (line l) ≡ e ∷ es → (w : Vertex) × Joins N e (line l) w → Near N l e
      go e es p (w, out c q t) = record { own = cc; closed = c; path = p ∙ ap (λ x. e ∷ x) (sym (path-next N d r (line l) (station (station_at N e)) e es i p (out c q refl))) }
      go e es p (w, into c q t) = let z : ◌≡◌ {A = ℕ} 0 1 = cc in absurd (omega arith)

  -- an HV station has the empty path
  pub hv-path : (s : ℕ) → is_hv N s ≡ true → path_to_hv N (station s) ≡ []
  unfolding at_hv
  hv-path s h = sym (path-only N d r (root_in N d (station s) h) (record { root = station s; is-root = h; trail = record { walk = stop refl; once = tt } }))

  -- no other station has
  no-path : (s : ℕ) → In N (station s) → path_to_hv N (station s) ≡ [] → is_hv N s ≡ true
  unfolding at_hv
  no-path s i p = let h = subst (Home (Joins N) (Root N) (station s)) p (path-home N d r (station s) i) in go h.trail.walk h.is-root
    where
      go : {v : Vertex} → Walk (Joins N) v (station s) [] → Root N v → is_hv N s ≡ true
      go (stop q) t = ap (at_hv N) q ∙ t

  -- the first end of a station's path is the far end of the line that feeds it
  pub far-begins : (s : ℕ) → In N (station s) → (e : End) (es : List End) → path_to_hv N (station s) ≡ e ∷ es → FarEnd N s e
  far-begins s i e es q = go (first-joins i q)
    where
      go : (w : Vertex) × Joins N e (station s) w → FarEnd N s e
      go (w, out c t k) = let z : ◌≡◌ {A = ℕ} 0 1 = cc in absurd (omega arith)
      go (w, into c t k) =
          let u : station_at N e ≡ s = cc in
          let x = closed-end N e c in
          let n = near-end e.line (x.0, x.1) in
          let p : path_to_hv N (station s) ≡ e ∷ path_to_hv N (line e.line) = q ∙ ap (λ y. e ∷ y) (sym (path-next N d r (station s) (line e.line) e es i q (into c t refl))) in
          record {
            closed = c;
            own = u;
            path = p;
            is-far = other-end N e (near_end N e.line) c n.closed (sym n.own)
                (λ z. end-first-once N d r e (n.path ∙ ap (λ y. y ∷ path_to_hv N (station (station_at N y))) (sym z)) (ap (λ y. path_to_hv N (station y)) u ∙ p));
          }

  -- how a path goes on at a station: it ends there, or goes on with the far end of the line that feeds the station
  pub hv-or-fed : (s : ℕ) → In N (station s) → ((is_hv N s ≡ true) × (path_to_hv N (station s) ≡ [])) ⊎ ((e : End) × FarEnd N s e)
  hv-or-fed s i = go (path_to_hv N (station s)) refl
    where
      go : (p : List End) → path_to_hv N (station s) ≡ p → ((is_hv N s ≡ true) × (path_to_hv N (station s) ≡ [])) ⊎ ((e : End) × FarEnd N s e)
      go [] q = inl (no-path s i q, q)
      go (e ∷ es) q = inr (e, far-begins s i e es q)

  pub far-end : (s : ℕ) → In N (station s) → (is_hv N s ≡ false) → (e : End) × FarEnd N s e
  far-end s i h = ⊎_elim (λ x. absurd (true≢false (sym x.0 ∙ h))) (λ x. x) (hv-or-fed s i)

  -- the far end of a line begins the path of its station, if it is closed
  pub far-first : (l : ℕ) → In N (line l) → is_open N (far (near_end N l)) ≡ false → FarEnd N (station_at N (far (near_end N l))) (far (near_end N l))
  far-first l i c = record {
    closed = c;
    own = refl;
    path = ⊎_elim (λ q. absurd (far-not (near_end N l) (ahead q))) (λ q. q) (end-first N d r (far (near_end N l)) c);
    is-far = ap (λ k. far (near_end N k)) (sym n.own);
  }
    where
      n : Near N l (near_end N l)
      n = near-end l i

      ahead : path_to_hv N (line (near_end N l).line) ≡ far (near_end N l) ∷ path_to_hv N (station (station_at N (far (near_end N l)))) → far (near_end N l) ≡ near_end N l
      ahead q = sym (near-is N (near_end N l).line _ _ q) ∙ ap (near_end N) n.own

  -- how each line is fed
  pub near-station : (l : ℕ) → In N (line l) → In N (station (station_at N (near_end N l)))
  near-station l i = let n = near-end l i in station-in N d (near_end N l) (omega (arith, i.0, n.own)) (omega (arith, i.1, n.own))

  line-fed : (l : ℕ) → In N (line l) → Fed N l
  unfolding feeder second_line
  line-fed l i = ⊎_elim
      (λ x. let p = n.path ∙ ap (λ x. near_end N l ∷ x) x.1 in by_hv p (last-breaker N d r (line l) [] (near_end N l) i p))
      (λ x. fed x.0 x.1)
      (hv-or-fed (station_at N (near_end N l)) (near-station l i))
    where
      n : Near N l (near_end N l)
      n = near-end l i

      fed : (f : End) → FarEnd N (station_at N (near_end N l)) f → Fed N l
      fed f t =
          let x = closed-end N f t.closed in
          let p = n.path ∙ ap (λ x. near_end N l ∷ x) t.path in
          let y : f.line ≡ feeder N l = sym (ap second_line p) in
          by_line (subst (λ j. 1 ≤ j) y x.0) (subst (λ j. j ≤ length N.lines) y x.1)
          (subst (λ j. path_to_hv N (line l) ≡ near_end N l ∷ far (near_end N j) ∷ path_to_hv N (line j)) y (p ∙ ap (λ x. near_end N l ∷ x ∷ path_to_hv N (line f.line)) t.is-far))

  pub feeds : Feeds N
  feeds = record {
    ends = λ l a b. let n = near-end l (a, b) in let s = side-of N (near_end N l) n.closed in (n.own, s.0, s.1);
    fed = λ l a b. line-fed l (a, b);
  }
