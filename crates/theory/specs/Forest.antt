-- A radial network is a forest with one HV station in each tree: each station and line has one path to an HV station.
use Prim.Native.Nat.{ℕ, zero, suc, ◌≤◌}
use Rattle.std.specs.Prelude.{◌≡◌, Bool, ◌&&◌, ◌||◌, ◌⊎◌}
use Rattle.std.proofs.Math.Path.{refl}
use Rattle.std.proofs.Common.{sym, ap, ◌∙◌, subst, ⊎_elim}
use Rattle.std.proofs.Math.Bool.{true, false, true≢false}
use mathlib.Core.List.Memᴰ
use mathlib.Core.List.{List, [], ◌∷◌, ◌++◌, Memᴰ}
use native.Mathlib.Omega.{arith}
use Rattle.std.proofs.Math.ListN.{length}
use borrow.Author.Tests.{eqb-false, eq-eqb}
use Rattle.model.specs.Lists.{any, first_or, numbered}
use Rattle.model.specs.Network.{Network, Line, no_line, state_at}
use Rattle.model.specs.Paths.{Vertex, station, line, End, end1, end2, state, is_plain, is_breaker, is_open, station_at, paths, target, is_hv, at_hv}
use Rattle.model.specs.Rules.{both_open, plain_at_hv, unprotected, is_supplied}
use Rattle.model.specs.Outage.{path_to_hv}
use Rattle.graphs.specs.Graph.{Walk, stop, step, Reach→Connected}
use Rattle.graphs.specs.Tree.{Home, home-from, home-tail, edge-one-way, one-home, home-next, edge-up}
use Rattle.savings.specs.Facts.{or_cases}
use Rattle.savings.specs.Tree.{Tree}
use Rattle.theory.specs.Reading.{LineFits, Read}
use Rattle.theory.specs.Ends.{any-in, end-discrete, Joins, out, into, joins-edges, closed-end, walk_target, paths-are}
use Rattle.theory.specs.Radial.{Rules, In, Root, line-fits, joins-in, path-listed, no-cycle, lone}

-- the first element that passes a test, where some does
pub first_or-found : {A : Type 0} (other : A) (test : A → Bool) (xs : List A) → any test xs ≡ true → Memᴰ (first_or other test xs) xs × (test (first_or other test xs) ≡ true)
unfolding any first_or
first_or-found other test [] h = absurd (true≢false (sym h))
first_or-found {A} other test (x ∷ xs) h = go (test x) refl (λ k. first_or-found other test xs k)
  where
    pick : Bool → A
    pick b = elim b [ true ↦ x | false ↦ first_or other test xs ]

    go : (b : Bool) → test x ≡ b → (any test xs ≡ true → Memᴰ (first_or other test xs) xs × (test (first_or other test xs) ≡ true)) → Memᴰ (pick b) (x ∷ xs) × (test (pick b) ≡ true)
    go true q ih = (Memᴰ.head refl, q)
    go false q ih = let r = ih (or_cases (test x) (any test xs) (λ p. absurd (true≢false (sym p ∙ q))) (λ p. p) h) in (Memᴰ.tail r.0, r.1)

-- two booleans whose disjunction is false are both false
pub neither : (a b : Bool) → (a || b) ≡ false → (a ≡ false) × (b ≡ false)
neither true b q = absurd (true≢false q)
neither false b q = (refl, q)

-- the last element of a list
last_of : {A : Type 0} (x : A) (xs : List A) → (ys : List A) × (y : A) × (x ∷ xs ≡ ys ++ (y ∷ []))
last_of x [] = ([], x, refl)
last_of x (y ∷ xs) = let r = last_of y xs in (x ∷ r.0, r.1, ap (λ l. x ∷ l) r.2)

module _ (N : Network) (d : Read N) (r : Rules N) where
  -- where some listed path leads to an HV station, `path_to_hv` is one that does
  path-found : (v : Vertex) → any (λ es. at_hv N (target N v es)) (paths N v) ≡ true → Home (Joins N) (Root N) v (path_to_hv N v)
  unfolding path_to_hv
  path-found v h =
      let f = first_or-found [] (λ es. at_hv N (target N v es)) (paths N v) h in
      record { root = target N v (first_or [] (λ es. at_hv N (target N v es)) (paths N v)); is-root = f.1; trail = (paths-are N v _).0 f.0 }

  home_found : (v : Vertex) (es : List End) → Home (Joins N) (Root N) v es → Home (Joins N) (Root N) v (path_to_hv N v)
  home_found v es h = path-found v (any-in (λ es. at_hv N (target N v es)) es (paths N v) (path-listed N d h.trail) (ap (λ x. at_hv N x) (walk_target N h.trail.walk) ∙ h.is-root))

  -- a line with a closed end has a path to an HV station
  line-home : (l : ℕ) (e : End) → e.line ≡ l → is_open N e ≡ false → Home (Joins N) (Root N) (line l) (path_to_hv N (line l))
  unfolding is_supplied
  line-home l e p c =
      let j : Joins N e (line l) (station (station_at N e)) = out c (ap line (sym p)) refl in
      let i = joins-in N d e (station (station_at N e)) (line l) ((joins-edges N).turn j) in
      let h = path-found (station (station_at N e)) (r.supplied (station_at N e) i.0 i.1) in
      let t = Reach→Connected end-discrete (joins-edges N) (e ∷ path_to_hv N (station (station_at N e)), step j h.trail.walk) in
      home_found (line l) t.0 (record { root = h.root; is-root = h.is-root; trail = t.1 })

  -- each station and line has a path to an HV station, and `path_to_hv` is it
  pub path-home : (v : Vertex) → In N v → Home (Joins N) (Root N) v (path_to_hv N v)
  unfolding is_supplied both_open
  path-home (station s) i = path-found (station s) (r.supplied s i.0 i.1)
  path-home (line l) i = go (is_open N (end1 l)) (is_open N (end2 l)) refl refl (r.connected l i.0 i.1)
    where
      go : (a b : Bool) → is_open N (end1 l) ≡ a → is_open N (end2 l) ≡ b → (a && b) ≡ false → Home (Joins N) (Root N) (line l) (path_to_hv N (line l))
      go true true p q h = absurd (true≢false h)
      go true false p q h = line-home l (end2 l) refl q
      go false b p q h = line-home l (end1 l) refl p

  -- there is no other
  pub path-only : {v : Vertex} {es : List End} → In N v → Home (Joins N) (Root N) v es → es ≡ path_to_hv N v
  path-only {v} i h = one-home end-discrete (joins-edges N) (no-cycle N d r) (lone N d r) h (path-home v i)

  -- it is its first end, followed by the path of what lies across
  pub path-next : (v w : Vertex) (e : End) (es : List End) → In N v → path_to_hv N v ≡ e ∷ es → Joins N e v w → path_to_hv N w ≡ es
  path-next v w e es i p j =
      home-next end-discrete (joins-edges N) (no-cycle N d r) (lone N d r) (subst (Home (Joins N) (Root N) v) p (path-home v i)) j
      (path-home w (joins-in N d e w v ((joins-edges N).turn j)))

  -- a closed end is the first end of its line's path or of its station's, and never of both
  pub end-first : (e : End) → is_open N e ≡ false
      → (path_to_hv N (line e.line) ≡ e ∷ path_to_hv N (station (station_at N e))) ⊎ (path_to_hv N (station (station_at N e)) ≡ e ∷ path_to_hv N (line e.line))
  end-first e c =
      let j : Joins N e (line e.line) (station (station_at N e)) = out c refl refl in
      edge-up end-discrete (joins-edges N) (no-cycle N d r) (lone N d r)
      (path-home (line e.line) (joins-in N d e (line e.line) (station (station_at N e)) j))
      (path-home (station (station_at N e)) (joins-in N d e (station (station_at N e)) (line e.line) ((joins-edges N).turn j))) j

  pub end-first-once : (e : End) → path_to_hv N (line e.line) ≡ e ∷ path_to_hv N (station (station_at N e)) → path_to_hv N (station (station_at N e)) ≡ e ∷ path_to_hv N (line e.line) → ⊥
  end-first-once e p q = edge-one-way p q

  -- ── a breaker on every line's path ──
  pub state-high : (e : End) → is_open N e ≡ false → state N e ≤ 2
  unfolding state state_at
  state-high e c =
      let x = closed-end N e c in
      side (numbered no_line N.lines e.line) (line-fits N d e.line x.0 x.1) e.side
    where
      side : (l : Line) → LineFits (length N.stations) l → (s : ℕ) → state_at l s ≤ 2
      side l f zero = omega arith
      side l f (suc zero) = f.state1.high
      side l f (suc (suc zero)) = f.state2.high
      side l f (suc (suc (suc s))) = omega arith

  -- a closed end at an HV station is a breaker
  hv-breaker : (e : End) → is_open N e ≡ false → is_hv N (station_at N e) ≡ true → is_breaker N e ≡ true
  unfolding unprotected plain_at_hv
  hv-breaker e c h = eq-eqb (state N e) 1 (omega (arith, eqb-false (state N e) 2 c, eqb-false (state N e) 0 plain, state-high e c))
    where
      x : (1 ≤ e.line) × (e.line ≤ length N.lines) × ((e ≡ end1 e.line) ⊎ (e ≡ end2 e.line))
      x = closed-end N e c

      first : (a b : Bool) → b ≡ true → (a && b) ≡ false → a ≡ false
      first true b p q = absurd (true≢false (sym p ∙ q))
      first false b p q = refl

      plain : is_plain N e ≡ false
      plain =
          let n = neither (plain_at_hv N (end1 e.line)) (plain_at_hv N (end2 e.line)) (r.protected e.line x.0 x.1) in
          first (is_plain N e) (is_hv N (station_at N e)) h (⊎_elim (λ p. ap (plain_at_hv N) p ∙ n.0) (λ p. ap (plain_at_hv N) p ∙ n.1) x.2)

  -- an end that leads to an HV station is a breaker
  arrival : {e : End} {v w : Vertex} → Joins N e v w → Root N w → is_breaker N e ≡ true
  unfolding at_hv
  arrival {e} (out c p q) h = hv-breaker e c (ap (λ x. at_hv N x) (sym q) ∙ h)
  arrival {e} (into c p q) h = absurd (true≢false (sym (ap (λ x. at_hv N x) (sym q) ∙ h)))

  pub last-breaker : (v : Vertex) (es : List End) (e : End) → In N v → path_to_hv N v ≡ es ++ (e ∷ []) → is_breaker N e ≡ true
  last-breaker v es e i p =
      let h = home-from es (e ∷ []) (subst (Home (Joins N) (Root N) v) p (path-home v i)) in
      let t = home-tail h.2 in
      arrival t.1 (ends t.2.trail.walk t.2.is-root)
    where
      ends : {x y : Vertex} → Walk (Joins N) y x [] → Root N y → Root N x
      ends (stop q) a = subst (Root N) (sym q) a

  pub line-path : (l : ℕ) → In N (line l) → (e : End) × (es : List End) × (path_to_hv N (line l) ≡ e ∷ es)
  unfolding at_hv
  line-path l i = go (path_to_hv N (line l)) refl (path-home (line l) i)
    where
      not_root : {y : Vertex} → Walk (Joins N) y (line l) [] → Root N y → ⊥
      not_root (stop q) a = true≢false (sym (ap (λ x. at_hv N x) q ∙ a))

      go : (p : List End) → path_to_hv N (line l) ≡ p → Home (Joins N) (Root N) (line l) p → (e : End) × (es : List End) × (path_to_hv N (line l) ≡ e ∷ es)
      go [] q h = absurd (not_root h.trail.walk h.is-root)
      go (e ∷ es) q h = (e, es, q)

  one : {v : Vertex} {p q : List End} → Home (Joins N) (Root N) v p → Home (Joins N) (Root N) v q → p ≡ q
  one h k = one-home end-discrete (joins-edges N) (no-cycle N d r) (lone N d r) h k

  moved : {u v : Vertex} {p : List End} → u ≡ v → Home (Joins N) (Root N) u p → Home (Joins N) (Root N) v p
  moved {p} e h = subst (λ x. Home (Joins N) (Root N) x p) e h

  -- from an end on, two paths to an HV station are the same
  onward : {u v : Vertex} {e : End} {ys zs : List End} → Home (Joins N) (Root N) u (e ∷ ys) → Home (Joins N) (Root N) v (e ∷ zs) → ys ≡ zs
  onward {u} {v} {e} {ys} {zs} h k = go (home-tail h) (home-tail k)
    where
      go : (x : Vertex) × Joins N e u x × Home (Joins N) (Root N) x ys → (y : Vertex) × Joins N e v y × Home (Joins N) (Root N) y zs → ys ≡ zs
      go (x, i, a) (y, j, b) = ⊎_elim (λ p. one (moved p.1 a) b) (λ p. absurd (edge-one-way (one (moved p.1 a) k) (one (moved (sym p.0) b) h))) ((joins-edges N).two i j)

  -- what the theory of savings asks of a network
  pub tree : Tree N
  tree = record {
    onward = λ t l t1 tn l1 ln e xs ys xs' ys' p q.
        onward (home-from xs (e ∷ ys) (subst (Home (Joins N) (Root N) (station t)) p (path-home (station t) (t1, tn)))).2
        (home-from xs' (e ∷ ys') (subst (Home (Joins N) (Root N) (line l)) q (path-home (line l) (l1, ln)))).2;
    trips = λ l l1 ln.
        let p = line-path l (l1, ln) in
        let z = last_of p.0 p.1 in
        let k : path_to_hv N (line l) ≡ z.0 ++ (z.1 ∷ []) = p.2 ∙ z.2 in
        any-in (λ e. is_breaker N e) z.1 (path_to_hv N (line l)) (subst (Memᴰ z.1) (sym k) (Memᴰ.append_right z.0 (Memᴰ.head refl))) (last-breaker (line l) z.0 z.1 (l1, ln) k);
  }
