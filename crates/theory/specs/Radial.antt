-- What the rules 4 to 9 give of a network that is read, in terms of its graph: no path returns, the HV stations are apart, and
-- every station and line has a path to an HV station.
use Rattle.std.specs.Prelude.{ℕ, zero, suc, ◌≤◌, ◌≡◌, Bool, ◌&&◌, length}
use Rattle.std.proofs.Math.Path.{refl, sym}
use Rattle.std.proofs.Common.{ap, ◌∙◌, subst, true≢false, ⊎_elim, arith}
use Rattle.std.proofs.Math.Bool.{true, false, not}
use mathlib.Core.List.Memᴰ
use mathlib.Core.List.{List, [], ◌∷◌, ◌++◌, map, Memᴰ}
use Rattle.std.proofs.Math.Dec.{eqb}
use Rattle.std.proofs.lemmas.Bool.{not-false}
use Rattle.model.specs.Lists.{any, numbers, numbered}
use Rattle.model.specs.Answer.{Answer, given}
use Rattle.model.specs.Network.{Network, Station, no_line}
use Rattle.model.specs.Paths.{Vertex, station, line, same_vertex, End, station_numbers, line_numbers, station_at, paths, target, no_station, is_hv, at_hv}
use Rattle.model.specs.Rules.{both_open, unprotected, returns_to, some_path_returns, joins_another, some_joined, is_supplied, series_broken, unless, unless_some, radial}
use Rattle.graphs.specs.Graph.{Trail, Connected, Cyclic, begins}
use Rattle.graphs.specs.Tree.{Lone}
use Rattle.theory.specs.Reading.{All, LineFits, Read, given_eq, not-given}
use Rattle.theory.specs.Ends.{any-in, numbered-there, in-numbers, same_vertex-is, Joins, out, into, closed-end, walk_target, paths-are}

-- ── the rules, one by one ──
-- the rules 4 to 8: what makes a network a forest with an HV station in each tree
pub record Rules (N : Network) : Type 0 where
  pub connected : (l : ℕ) → 1 ≤ l → l ≤ length N.lines → both_open N l ≡ false
  pub protected : (l : ℕ) → 1 ≤ l → l ≤ length N.lines → unprotected N l ≡ false
  pub unreturned : some_path_returns N ≡ false
  pub unjoined : some_joined N ≡ false
  pub supplied : (s : ℕ) → 1 ≤ s → s ≤ length N.stations → is_supplied N s ≡ true

unless-given : (b : Bool) (refuse next : Answer Network) (M : Network) → (refuse ≡ given M → ⊥) → unless b refuse next ≡ given M → (b ≡ false) × (next ≡ given M)
unfolding unless
unless-given true refuse next M n h = absurd (n h)
unless-given false refuse next M n h = (refl, h)

unless_some-given : (test : ℕ → Bool) (ks : List ℕ) (refuse : ℕ → Answer Network) (next : Answer Network) (M : Network)
    → ((k : ℕ) → refuse k ≡ given M → ⊥) → unless_some test ks refuse next ≡ given M → ((k : ℕ) → Memᴰ k ks → test k ≡ false) × (next ≡ given M)
unfolding unless_some
unless_some-given test [] refuse next M n h = (λ k m. absurd (Memᴰ.not-nil m), h)
unless_some-given test (k ∷ ks) refuse next M n h = go (test k) refl h (λ g. unless_some-given test ks refuse next M n g)
  where
    go : (b : Bool) → test k ≡ b → ◌≡◌ {A = Answer Network} (elim b as (λ x. Answer Network) [ true ↦ refuse k | false ↦ unless_some test ks refuse next ]) (given M)
        → (unless_some test ks refuse next ≡ given M → ((j : ℕ) → Memᴰ j ks → test j ≡ false) × (next ≡ given M))
        → ((j : ℕ) → Memᴰ j (k ∷ ks) → test j ≡ false) × (next ≡ given M)
    go true q g ih = absurd (n k g)
    go false q g ih = let r = ih g in ((λ j m. ⊎_elim (λ p. ap test p ∙ q) (λ i. r.0 j i) (Memᴰ.cases_cons m)), r.1)

pub radial-rules : (N M : Network) → radial N ≡ given M → Rules N × (series_broken N ≡ false) × (N ≡ M)
unfolding radial station_numbers line_numbers
radial-rules N M h =
    let r4 = unless_some-given (λ l. both_open N l) (numbers 1 (length N.lines)) _ _ M (λ k. not-given 4 _ M) h in
    let r5 = unless_some-given (λ l. unprotected N l) (numbers 1 (length N.lines)) _ _ M (λ k. not-given 5 _ M) r4.1 in
    let r6 = unless-given (some_path_returns N) _ _ M (not-given 6 0 M) r5.1 in
    let r7 = unless-given (some_joined N) _ _ M (not-given 7 0 M) r6.1 in
    let r8 = unless_some-given (λ s. not (is_supplied N s)) (numbers 1 (length N.stations)) _ _ M (λ k. not-given 8 _ M) r7.1 in
    let r9 = unless-given (series_broken N) _ _ M (not-given 9 0 M) r8.1 in (
      record {
        connected = λ l a b. r4.0 l (in-numbers l 1 (length N.lines) a (omega arith));
        protected = λ l a b. r5.0 l (in-numbers l 1 (length N.lines) a (omega arith));
        unreturned = r6.0;
        unjoined = r7.0;
        supplied = λ s a b. not-false (is_supplied N s) (r8.0 s (in-numbers s 1 (length N.stations) a (omega arith)));
      },
      r9.0,
      given_eq N M r9.1,
    )

-- ── vertices ──
-- a station or a line of the file
abbrev pub In : Network → Vertex → Type 0
In N (station s) = (1 ≤ s) × (s ≤ length N.stations)
In N (line l) = (1 ≤ l) × (l ≤ length N.lines)

-- an HV station
abbrev pub Root : Network → Vertex → Type 0
Root N v = at_hv N v ≡ true

-- what every element of a list has, an element that is there has
pub numbered-in : {A : Type 0} (P : A → Type 0) (xs : List A) (other : A) → All P xs → (k : ℕ) → 1 ≤ k → k ≤ length xs → P (numbered other xs k)
unfolding numbered
numbered-in P xs other a zero l h = absurd (omega arith)
numbered-in P [] other a (suc k) l h = absurd (omega arith)
numbered-in P (x ∷ xs) other a (suc zero) l h = a.0
numbered-in P (x ∷ xs) other a (suc (suc k)) l h = numbered-in P xs other a.1 (suc k) (omega arith) (omega arith)

module _ (N : Network) (d : Read N) where
  pub line-fits : (l : ℕ) → 1 ≤ l → l ≤ length N.lines → LineFits (length N.stations) (numbered no_line N.lines l)
  line-fits l a b = numbered-in (LineFits (length N.stations)) N.lines no_line d.lines l a b

  -- the station of an end of a line of the file is a station of the file
  pub station-in : (e : End) → 1 ≤ e.line → e.line ≤ length N.lines → In N (station (station_at N e))
  unfolding station_at
  station-in e a b = go (eqb e.side 1)
    where
      f : LineFits (length N.stations) (numbered no_line N.lines e.line)
      f = line-fits e.line a b

      go : (t : Bool) → In N (station (elim t [ true ↦ (numbered no_line N.lines e.line).from | false ↦ (numbered no_line N.lines e.line).to ]))
      go true = (f.station1.low, f.station1.high)
      go false = (f.station2.low, f.station2.high)

  -- what an end joins is of the file
  pub joins-in : (e : End) (u v : Vertex) → Joins N e u v → In N u
  joins-in e u v (out c p q) = let x = closed-end N e c in subst (In N) (sym p) (x.0, x.1)
  joins-in e u v (into c p q) = let x = closed-end N e c in subst (In N) (sym p) (station-in e x.0 x.1)

  pub listed-vertex : (u : Vertex) → In N u → Memᴰ u (map (λ s. station s) (station_numbers N) ++ map (λ l. line l) (line_numbers N))
  unfolding station_numbers line_numbers
  listed-vertex (station s) i = Memᴰ.append_left _ (Memᴰ.map (λ s. station s) (in-numbers s 1 (length N.stations) i.0 (omega (arith, i.1))))
  listed-vertex (line l) i = Memᴰ.append_right (map (λ s. station s) (numbers 1 (length N.stations))) (Memᴰ.map (λ l. line l) (in-numbers l 1 (length N.lines) i.0 (omega (arith, i.1))))

  -- a path is one of `paths`
  pub path-listed : {u v : Vertex} {es : List End} → Trail (Joins N) u es v → Memᴰ es (paths N u)
  path-listed {u} {v} {es} t = (paths-are N u es).1 (subst (Trail (Joins N) u es) (sym (walk_target N t.walk)) t)

  -- an HV station is a station of the file
  pub root_in : (v : Vertex) → Root N v → In N v
  unfolding at_hv is_hv
  root_in (station h) e = numbered-there (λ (s : Station). eqb s.role 1) N.stations no_station refl h e
  root_in (line l) e = absurd (true≢false (sym e))

  -- a cycle is a path that returns to its start
  pub cycle-returns : Cyclic (Joins N) → some_path_returns N ≡ true
  unfolding some_path_returns returns_to
  cycle-returns c =
      let u = c.start in
      let p = c.first ∷ c.rest in
      let s = begins c.round.walk in
      any-in (λ v. any (λ es. returns_to N v es) (paths N v)) u _ (listed-vertex u (joins-in c.first u s.0 s.1))
      (any-in (λ es. returns_to N u es) p (paths N u) (path-listed c.round)
      ((same_vertex-is (target N u p) u).1 (walk_target N c.round.walk)))

  -- a path between two different HV stations joins them
  pub connected-joined : (h : ℕ) (v : Vertex) → Root N (station h) → Root N v → same_vertex v (station h) ≡ false → Connected (Joins N) (station h) v → some_joined N ≡ true
  unfolding some_joined joins_another at_hv station_numbers
  connected-joined h v p q e c =
      let i = root_in (station h) p in
      any-in (λ h. is_hv N h && any (λ es. joins_another N h es) (paths N (station h))) h _ (in-numbers h 1 (length N.stations) i.0 (omega (arith, i.1)))
      (λ k. p k && any-in (λ es. joins_another N h es) c.0 (paths N (station h)) (path-listed c.1)
      ((λ j. at_hv N (at_target j) && not (same_vertex (at_target j) (station h))) ∙ (λ j. q j && not (e j))) k)
    where
      at_target : target N (station h) c.0 ≡ v
      at_target = walk_target N c.1.walk

  module _ (r : Rules N) where
    -- rule 6
    pub no-cycle : ¬ Cyclic (Joins N)
    no-cycle c = true≢false (sym (cycle-returns c) ∙ r.unreturned)

    -- rule 7
    pub lone : Lone (Joins N) (Root N)
    unfolding at_hv
    lone (line l) v p q c = absurd (true≢false (sym p))
    lone (station h) v p q c = go (same_vertex v (station h)) refl
      where
        go : (b : Bool) → same_vertex v (station h) ≡ b → station h ≡ v
        go true e = sym ((same_vertex-is v (station h)).0 e)
        go false e = absurd (true≢false (sym (connected-joined h v p q e c) ∙ r.unjoined))
