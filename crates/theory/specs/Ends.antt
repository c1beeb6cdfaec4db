-- A network as a graph: stations and lines are its vertices, closed ends its edges. `paths` lists exactly the paths of this graph.
use Prim.Native.Nat.{ℕ, zero, suc, ◌+◌, ◌≤◌, ◌<◌}
use Rattle.std.specs.Prelude.{◌≡◌, Bool, ◌&&◌, ◌||◌, ◌↔◌, ◌⊎◌, length}
use Rattle.std.proofs.Math.Path.{refl, sym, ap, subst}
use Rattle.std.proofs.Common.{◌∙◌, true≢false, arith}
use Rattle.std.proofs.Math.Bool.{true, false, not}
use Rattle.std.proofs.Math.Logic.{inl, inr, ⊎_elim}
use mathlib.Core.List.Memᴰ
use mathlib.Core.List.{List, [], ◌∷◌, map, flat_map, Memᴰ}
use Rattle.std.proofs.Math.Decide.{ℕ_discrete}
use Rattle.std.proofs.Math.Dec.{eqb}
use borrow.Author.Tests.{eqb-true, eq-eqb, not-true}
use Rattle.model.specs.Lists.{any, keep, numbers, numbered}
use Rattle.model.specs.Network.{Network, Line, no_line, state_at}
use Rattle.model.specs.Paths.{Vertex, station, line, same_vertex, End, same_end, end1, end2, line_numbers, state, is_breaker, is_open, station_at, closed_ends, is_at, across, paths_from, paths, target}
use Rattle.graphs.specs.Graph.{Walk, stop, step, Fresh, NoRepeat, Trail, Edges}
use Rattle.graphs.specs.Behind.{short, same-dec}
use Rattle.savings.specs.Facts.{both, or_left, or_right, or_cases, same_end-eq, same_end-refl}
use Rattle.savings.specs.Breakers.{no_line-open}

-- ── lists ──
module _ {A : Type 0} (test : A → Bool) where
  -- what passes a test and is listed is kept
  pub in-keep : (x : A) (xs : List A) → Memᴰ x xs → test x ≡ true → Memᴰ x (keep test xs)
  unfolding keep
  in-keep x [] m e = m
  in-keep x (y ∷ ys) m e = go (test y) refl (Memᴰ.cases_cons m) (λ n. in-keep x ys n e)
    where
      go : (b : Bool) → test y ≡ b → (x ≡ y) ⊎ Memᴰ x ys → (Memᴰ x ys → Memᴰ x (keep test ys))
          → Memᴰ x (elim b as (λ z. List A) [ true ↦ y ∷ keep test ys | false ↦ keep test ys ])
      go true q (inl p) ih = Memᴰ.head p
      go true q (inr n) ih = Memᴰ.tail (ih n)
      go false q (inl p) ih = absurd (true≢false (sym e ∙ ap test p ∙ q))
      go false q (inr n) ih = ih n

  -- what is kept is listed and passes the test
  pub keep-in : (x : A) (xs : List A) → Memᴰ x (keep test xs) → Memᴰ x xs × (test x ≡ true)
  unfolding keep
  keep-in x [] m = absurd (Memᴰ.not-nil m)
  keep-in x (y ∷ ys) m = go (test y) refl m (λ n. keep-in x ys n)
    where
      go : (b : Bool) → test y ≡ b → Memᴰ x (elim b as (λ z. List A) [ true ↦ y ∷ keep test ys | false ↦ keep test ys ])
          → (Memᴰ x (keep test ys) → Memᴰ x ys × (test x ≡ true)) → Memᴰ x (y ∷ ys) × (test x ≡ true)
      go true q m ih = ⊎_elim (λ p. (Memᴰ.head p, ap test p ∙ q)) (λ n. let r = ih n in (Memᴰ.tail r.0, r.1)) (Memᴰ.cases_cons m)
      go false q m ih = let r = ih m in (Memᴰ.tail r.0, r.1)

  -- a test passes somewhere in a list
  pub any-in : (x : A) (xs : List A) → Memᴰ x xs → test x ≡ true → any test xs ≡ true
  unfolding any
  any-in x [] m e = absurd (Memᴰ.not-nil m)
  any-in x (y ∷ ys) m e = ⊎_elim (λ p. or_left (test y) (any test ys) (ap test (sym p) ∙ e)) (λ n. or_right (test y) (any test ys) (any-in x ys n e)) (Memᴰ.cases_cons m)

  pub any_out : (xs : List A) → any test xs ≡ true → (x : A) × Memᴰ x xs × (test x ≡ true)
  unfolding any
  any_out [] e = absurd (true≢false (sym e))
  any_out (y ∷ ys) e = or_cases (test y) (any test ys) (λ q. (y, Memᴰ.head refl, q)) (λ q. let r = any_out ys q in (r.0, Memᴰ.tail r.1, r.2)) e

module _ {A B : Type 0} (f : A → List B) where
  pub in-flat : (x : A) (b : B) (xs : List A) → Memᴰ x xs → Memᴰ b (f x) → Memᴰ b (flat_map f xs)
  unfolding flat_map
  in-flat x b [] m n = absurd (Memᴰ.not-nil m)
  in-flat x b (y ∷ ys) m n =
      ⊎_elim (λ p. Memᴰ.append_left (flat_map f ys) (subst (λ z. Memᴰ b (f z)) p n)) (λ k. Memᴰ.append_right (f y) (in-flat x b ys k n)) (Memᴰ.cases_cons m)

  pub flat_in : (b : B) (xs : List A) → Memᴰ b (flat_map f xs) → (x : A) × Memᴰ x xs × Memᴰ b (f x)
  unfolding flat_map
  flat_in b [] m = absurd (Memᴰ.not-nil m)
  flat_in b (y ∷ ys) m =
      ⊎_elim (λ k. (y, Memᴰ.head refl, k)) (λ k. let r = flat_in b ys k in (r.0, Memᴰ.tail r.1, r.2)) (Memᴰ.append_cases (f y) m)

-- ── ends and vertices ──
pub same_end-is : (d e : End) → (same_end d e ≡ true) ↔ (d ≡ e)
same_end-is d e = (same_end-eq d e, λ p. ap (λ x. same_end x e) p ∙ same_end-refl e)

pub end-discrete : Discrete End
end-discrete = same-dec same_end-is

pub same_vertex-is : (u v : Vertex) → (same_vertex u v ≡ true) ↔ (u ≡ v)
same_vertex-is (station a) (station b) = (λ h. ap station (eqb-true a b h), λ p. let q : a ≡ b = cc in eq-eqb a b q)
same_vertex-is (station a) (line b) = (λ h. absurd (true≢false (sym h)), λ p. cc)
same_vertex-is (line a) (station b) = (λ h. absurd (true≢false (sym h)), λ p. cc)
same_vertex-is (line a) (line b) = (λ h. ap line (eqb-true a b h), λ p. let q : a ≡ b = cc in eq-eqb a b q)

-- an end that no used end is
pub unused-fresh : (e : End) (used : List End) → any (λ d. same_end d e) used ≡ false → Fresh e used
unfolding any
unused-fresh e [] h = tt
unused-fresh e (d ∷ used) h = go (same_end d e) refl h (λ k. unused-fresh e used k)
  where
    go : (b : Bool) → same_end d e ≡ b → (b || any (λ d. same_end d e) used) ≡ false → (any (λ d. same_end d e) used ≡ false → Fresh e used) → Fresh e (d ∷ used)
    go true q h ih = absurd (true≢false h)
    go false q h ih = (λ p. true≢false (sym ((same_end-is d e).1 (sym p)) ∙ q), ih h)

pub fresh-unused : (e : End) (used : List End) → Fresh e used → any (λ d. same_end d e) used ≡ false
unfolding any
fresh-unused e [] f = refl
fresh-unused e (d ∷ used) f = go (same_end d e) refl (fresh-unused e used f.1)
  where
    go : (b : Bool) → same_end d e ≡ b → any (λ d. same_end d e) used ≡ false → (b || any (λ d. same_end d e) used) ≡ false
    go true q ih = absurd (f.0 (sym (same_end-eq d e q)))
    go false q ih = ih

-- ── the graph ──
-- an end that is closed joins its line and its station
pub data Joins (N : Network) (e : End) (u v : Vertex) : Type 0 where
  out : is_open N e ≡ false → u ≡ line e.line → v ≡ station (station_at N e) → Joins N e u v
  into : is_open N e ≡ false → u ≡ station (station_at N e) → v ≡ line e.line → Joins N e u v

-- a number at which a list has an element other than the one that stands for none is a number of the list
pub numbered-there : {A : Type 0} (test : A → Bool) (xs : List A) (other : A) → test other ≡ false → (k : ℕ) → test (numbered other xs k) ≡ true → (1 ≤ k) × (k ≤ length xs)
unfolding numbered
numbered-there test xs other n zero h = absurd (true≢false (sym h ∙ n))
numbered-there test [] other n (suc k) h = absurd (true≢false (sym h ∙ n))
numbered-there test (x ∷ xs) other n (suc zero) h = (omega arith, omega arith)
numbered-there test (x ∷ xs) other n (suc (suc k)) h = let r = numbered-there test xs other n (suc k) h in (omega arith, omega (arith, r.1))

pub in-numbers : (k from count : ℕ) → from ≤ k → k < from + count → Memᴰ k (numbers from count)
unfolding numbers
in-numbers k from zero a b = absurd (omega arith)
in-numbers k from (suc count) a b = go (ℕ_discrete k from) (λ c d. in-numbers k (from + 1) count c d)
  where
    go : Dec (k ≡ from) → (from + 1 ≤ k → k < from + 1 + count → Memᴰ k (numbers (from + 1) count)) → Memᴰ k (from ∷ numbers (from + 1) count)
    go (yes e) ih = Memᴰ.head e
    go (no d) ih = Memᴰ.tail (ih (omega arith) (omega arith))

pub numbers-in : (k from count : ℕ) → Memᴰ k (numbers from count) → (from ≤ k) × (k < from + count)
unfolding numbers
numbers-in k from zero m = absurd (Memᴰ.not-nil m)
numbers-in k from (suc count) m = ⊎_elim (λ e. (omega arith, omega arith)) (λ n. let r = numbers-in k (from + 1) count n in (omega (arith, r.0), omega (arith, r.1))) (Memᴰ.cases_cons m)

module _ (N : Network) where
  turn : {e : End} {u v : Vertex} → Joins N e u v → Joins N e v u
  turn (out c p q) = into c q p
  turn (into c p q) = out c q p

  two : {e : End} {u v x y : Vertex} → Joins N e u v → Joins N e x y → ((u ≡ x) × (v ≡ y)) ⊎ ((u ≡ y) × (v ≡ x))
  two (out c p q) (out d r t) = inl (p ∙ sym r, q ∙ sym t)
  two (out c p q) (into d r t) = inr (p ∙ sym t, q ∙ sym r)
  two (into c p q) (out d r t) = inr (p ∙ sym t, q ∙ sym r)
  two (into c p q) (into d r t) = inl (p ∙ sym r, q ∙ sym t)

  pub joins-edges : Edges (Joins N)
  joins-edges = record { turn = turn; two = two }

  pub joins-closed : {e : End} {u v : Vertex} → Joins N e u v → is_open N e ≡ false
  joins-closed (out c p q) = c
  joins-closed (into c p q) = c

  -- an end joins a vertex that it is at to the vertex across
  pub at-joins : (u : Vertex) (e : End) → is_open N e ≡ false → is_at N u e ≡ true → Joins N e u (across N u e)
  unfolding is_at across
  at-joins (station s) e c h = into c (ap station (eqb-true s (station_at N e) h)) refl
  at-joins (line l) e c h = or_cases (eqb l e.line) false (λ q. out c (ap line (eqb-true l e.line q)) refl) (λ q. absurd (true≢false (sym q))) h

  at-line : (e : End) → is_at N (line e.line) e ≡ true
  unfolding is_at
  at-line e = or_left (eqb e.line e.line) false (eq-eqb e.line e.line refl)

  at-station : (e : End) → is_at N (station (station_at N e)) e ≡ true
  unfolding is_at
  at-station e = eq-eqb (station_at N e) (station_at N e) refl

  pub joins_at : {e : End} {u v : Vertex} → Joins N e u v → (is_at N u e ≡ true) × (across N u e ≡ v)
  unfolding across
  joins_at {e} (out c p q) = (ap (λ x. is_at N x e) p ∙ at-line e, ap (λ x. across N x e) p ∙ sym q)
  joins_at {e} (into c p q) = (ap (λ x. is_at N x e) p ∙ at-station e, ap (λ x. across N x e) p ∙ sym q)

  -- ── the closed ends ──
  -- a breaker is closed
  pub breaker-closed : (e : End) → is_breaker N e ≡ true → is_open N e ≡ false
  breaker-closed e b = ap (λ n. eqb n 2) (eqb-true (state N e) 1 b)

  -- an end that is not open is an end of a line of the file
  pub closed-end : (e : End) → is_open N e ≡ false → (1 ≤ e.line) × (e.line ≤ length N.lines) × ((e ≡ end1 e.line) ⊎ (e ≡ end2 e.line))
  unfolding state
  closed-end e c =
      let t = numbered-there (λ (l : Line). not (eqb (state_at l e.side) 2)) N.lines no_line (ap not (no_line-open e.side)) e.line (ap not c) in
      (t.0, t.1, side e.line e.side c)
    where
      side : (l s : ℕ) → eqb (state_at (numbered no_line N.lines l) s) 2 ≡ false → (◌≡◌ {A = End} (record { line = l; side = s }) (end1 l)) ⊎ (◌≡◌ {A = End} (record { line = l; side = s }) (end2 l))
      side l zero h = absurd (true≢false h)
      side l (suc zero) h = inl refl
      side l (suc (suc zero)) h = inr refl
      side l (suc (suc (suc s))) h = absurd (true≢false h)

  -- the ends that are not open are listed
  pub in-closed : (e : End) → is_open N e ≡ false → Memᴰ e (closed_ends N)
  unfolding closed_ends line_numbers
  in-closed e c =
      let x = closed-end e c in
      in-keep (λ d. not (is_open N d)) e _
      (in-flat (λ l. end1 l ∷ end2 l ∷ []) e.line e (numbers 1 (length N.lines)) (in-numbers e.line 1 (length N.lines) x.0 (omega (arith, x.1)))
      (⊎_elim (λ p. Memᴰ.head p) (λ p. Memᴰ.tail (Memᴰ.head p)) x.2))
      (ap not c)

  pub closed_in : (e : End) → Memᴰ e (closed_ends N) → is_open N e ≡ false
  unfolding closed_ends
  closed_in e m = not-true (is_open N e) (keep-in (λ d. not (is_open N d)) e (flat_map (λ l. end1 l ∷ end2 l ∷ []) (line_numbers N)) m).1

  -- ── paths ──
  -- no end of a list is among the used ones
  abbrev Apart : List End → List End → Type 0
  Apart used [] = Unit {0}
  Apart used (e ∷ es) = Fresh e used × Apart used es

  apart-less : (e : End) (used es : List End) → Apart (e ∷ used) es → Fresh e es × Apart used es
  apart-less e used [] a = (tt, tt)
  apart-less e used (d ∷ es) a = let r = apart-less e used es a.1 in (((λ p. a.0.0 (sym p)), r.0), (a.0.1, r.1))

  apart_more : (e : End) (used es : List End) → Fresh e es → Apart used es → Apart (e ∷ used) es
  apart_more e used [] f a = tt
  apart_more e used (d ∷ es) f a = (((λ p. f.0 (sym p)), a.0), apart_more e used es f.1 a.1)

  apart_none : (es : List End) → Apart [] es
  apart_none [] = tt
  apart_none (e ∷ es) = (tt, apart_none es)

  -- where a walk over closed ends leads
  pub walk_target : {v u : Vertex} {es : List End} → Walk (Joins N) v u es → target N u es ≡ v
  unfolding target
  walk_target (stop p) = p
  walk_target (step {p = es} j w) = ap (λ x. target N x es) (joins_at j).1 ∙ walk_target w

  -- what is listed is a path
  sound-from : (most : ℕ) (used : List End) (u : Vertex) (es : List End) → Memᴰ es (paths_from N (closed_ends N) most used u)
      → Trail (Joins N) u es (target N u es) × Apart used es
  unfolding paths_from target
  sound-from zero used u es m = subst (λ es. Trail (Joins N) u es (target N u es) × Apart used es) (sym (Memᴰ.eq_of_singleton m)) (record { walk = stop refl; once = tt }, tt)
  sound-from (suc most) used u es m = ⊎_elim
      (λ p. subst (λ es. Trail (Joins N) u es (target N u es) × Apart used es) (sym p) (record { walk = stop refl; once = tt }, tt))
      (λ n. let f = flat_in (λ e. map (λ es. e ∷ es) (paths_from N (closed_ends N) most (e ∷ used) (across N u e))) es _ n in
      let k = keep-in (λ e. is_at N u e && not (any (λ d. same_end d e) used)) f.0 (closed_ends N) f.1 in
      let g = Memᴰ.of_map (λ es. f.0 ∷ es) _ f.2 in
      longer f.0 g.0 es k.0 (both (is_at N u f.0) (not (any (λ d. same_end d f.0) used)) k.1) g.2 (sound-from most (f.0 ∷ used) (across N u f.0) g.0 g.1))
      (Memᴰ.cases_cons m)
    where
      longer : (e : End) (ds fs : List End) → Memᴰ e (closed_ends N) → (is_at N u e ≡ true) × (not (any (λ d. same_end d e) used) ≡ true) → e ∷ ds ≡ fs
          → Trail (Joins N) (across N u e) ds (target N (across N u e) ds) × Apart (e ∷ used) ds → Trail (Joins N) u fs (target N u fs) × Apart used fs
      longer e ds fs c t p r =
          let a = apart-less e used ds r.1 in
          subst (λ es. Trail (Joins N) u es (target N u es) × Apart used es) p
          (record { walk = step (at-joins u e (closed_in e c) t.0) r.0.walk; once = (a.0, r.0.once) }, (unused-fresh e used (not-true _ t.1), a.1))

  -- a path is listed
  complete-from : (most : ℕ) (used : List End) {u v : Vertex} {es : List End} → Walk (Joins N) v u es → NoRepeat es → Apart used es → length es ≤ most
      → Memᴰ es (paths_from N (closed_ends N) most used u)
  unfolding paths_from
  complete-from zero used (stop p) n a h = Memᴰ.head refl
  complete-from (suc most) used (stop p) n a h = Memᴰ.head refl
  complete-from zero used (step j w) n a h = absurd (omega arith)
  complete-from (suc most) used {u} (step {i = e} {p = es} j w) n a h =
      let x = joins_at j in
      Memᴰ.tail
      (in-flat (λ e. map (λ es. e ∷ es) (paths_from N (closed_ends N) most (e ∷ used) (across N u e))) e (e ∷ es) _
      (in-keep (λ e. is_at N u e && not (any (λ d. same_end d e) used)) e (closed_ends N) (in-closed e (joins-closed j))
      (λ i. x.0 i && not (fresh-unused e used a.0 i)))
      (Memᴰ.map (λ es. e ∷ es)
      (subst (λ y. Memᴰ es (paths_from N (closed_ends N) most (e ∷ used) y)) (sym x.1) (complete-from most (e ∷ used) w n.1 (apart_more e used es n.0 a.1) (omega arith)))))

  pub walk-closed : {v u : Vertex} {es : List End} → Walk (Joins N) v u es → (e : End) → Memᴰ e es → Memᴰ e (closed_ends N)
  walk-closed (stop p) e m = absurd (Memᴰ.not-nil m)
  walk-closed (step {i = d} j w) e m = ⊎_elim (λ p. subst (λ x. Memᴰ x (closed_ends N)) (sym p) (in-closed d (joins-closed j))) (λ k. walk-closed w e k) (Memᴰ.cases_cons m)

  -- The paths of the definitions: consecutive closed ends that repeat none, all of them and nothing else.
  pub paths-are : (u : Vertex) (es : List End) → Memᴰ es (paths N u) ↔ Trail (Joins N) u es (target N u es)
  unfolding paths
  paths-are u es = (
    λ m. (sound-from (length (closed_ends N)) [] u es m).0,
    λ t. complete-from (length (closed_ends N)) [] t.walk t.once (apart_none es) (short es (closed_ends N) t.once (walk-closed t.walk)),
  )
