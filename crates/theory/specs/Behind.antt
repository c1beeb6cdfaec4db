-- The customers behind an end by recursion down the tree, from station to line and from line to far station. They are the
-- customers of all stations whose path to the HV station passes the end.
use Prim.Native.Nat.{ℕ, zero, suc, ◌+◌, ◌-◌, ◌≤◌, ◌<◌}
use Rattle.std.proofs.Math.Path.{◌≡◌, refl, sym, ap, subst}
use Rattle.std.proofs.Common.{◌∙◌, true≢false}
use Rattle.std.specs.Prelude.{Bool, ◌&&◌, ◌||◌, ◌≢◌, ◌↔◌, length}
use Rattle.std.proofs.Math.Bool.{true, false, not}
use Rattle.std.proofs.Math.Logic.{⊎_elim}
use Rattle.std.proofs.Math.Option.{Option, none, some}
use mathlib.Core.List.Memᴰ
use mathlib.Core.List.{List, [], ◌∷◌, ◌++◌, map, flat_map, Memᴰ}
use Rattle.std.proofs.Math.Decide.{ℕ_discrete}
use native.Mathlib.Omega.{arith}
use Rattle.std.proofs.Math.Dec.{eqb}
use borrow.Author.Tests.{eq-eqb, ne_eqb}
use Rattle.model.specs.Lists.{any, keep, sum, numbers}
use Rattle.model.specs.Network.{Network}
use Rattle.model.specs.Paths.{Vertex, station, line, same_vertex, End, same_end, end1, end2, station_numbers, line_numbers, state, is_open, station_at, closed_ends, is_at, across, customers_of}
use Rattle.model.specs.Outage.{path_to_hv, customers_behind}
use Rattle.graphs.specs.Graph.{Fresh, NoRepeat}
use Rattle.graphs.specs.Sum.{on, sum_over, Fresh-not, sum-ext, sum-zero, sum_one}
use Rattle.graphs.specs.Behind.{passes, impact_of, onto, behind, same_false, same_not, behind-is}
use Rattle.theory.specs.Reading.{Read}
use Rattle.theory.specs.Ends.{keep-in, flat_in, numbers-in, same_end-is, same_vertex-is, Joins, out, into, joins-edges, joins-closed, at-joins, joins_at, closed-end, in-closed, closed_in}
use Rattle.theory.specs.Radial.{Rules, In, joins-in, listed-vertex, no-cycle, lone}
use Rattle.theory.specs.Forest.{path-home, end-first}

-- the other end of the same line
abbrev pub far : End → End
far e = record { line = e.line; side = 3 - e.side }

unfoldable mutual
  unfolding sum keep state station_at customers_of closed_ends

  -- the customers behind a station that we come to by an end, with so many levels left: its own, and those behind each line that leaves it
  pub station_sum : Network → ℕ → End → ℕ → ℕ
  station_sum N zero e s = 0
  station_sum N (suc k) e s = customers_of N s + sum (map (λ d. line_sum N k d) (keep (λ d. eqb (station_at N d) s && not (same_end d e)) (closed_ends N)))

  -- the customers behind a line that we come to by an end: those behind its far station, or none if that end is open
  pub line_sum : Network → ℕ → End → ℕ
  line_sum N zero d = 0
  line_sum N (suc k) d = elim (is_open N (far d)) [ true ↦ 0 | false ↦ station_sum N k (far d) (station_at N (far d)) ]

-- ── lists that repeat nothing: how they are made ──
module _ {A : Type 0} where
  -- what differs from every element of a list is none of them
  pub none_of : (x : A) (xs : List A) → ((y : A) → Memᴰ y xs → x ≢ y) → Fresh x xs
  none_of x [] h = tt
  none_of x (y ∷ ys) h = (h y (Memᴰ.head refl), none_of x ys (λ z m. h z (Memᴰ.tail m)))

  -- two lists with nothing in common
  pub append-once : (xs ys : List A) → NoRepeat xs → NoRepeat ys → ((x y : A) → Memᴰ x xs → Memᴰ y ys → x ≢ y) → NoRepeat (xs ++ ys)
  append-once [] ys n m h = m
  append-once (x ∷ xs) ys n m h = (
    none_of x (xs ++ ys) (λ y k. ⊎_elim (λ i e. Fresh-not x y xs n.0 i (sym e)) (λ i. h x y (Memᴰ.head refl) i) (Memᴰ.append_cases xs k)),
    append-once xs ys n.1 m (λ y z i j. h y z (Memᴰ.tail i) j),
  )

  -- the elements that pass a test
  pub keep-once : (test : A → Bool) (xs : List A) → NoRepeat xs → NoRepeat (keep test xs)
  unfolding keep
  keep-once test [] n = tt
  keep-once test (x ∷ xs) n = go (test x) (keep-once test xs n.1)
    where
      go : (b : Bool) → NoRepeat (keep test xs) → NoRepeat {A = A} (elim b as (λ z. List A) [ true ↦ x ∷ keep test xs | false ↦ keep test xs ])
      go true ih = (none_of x (keep test xs) (λ y m e. Fresh-not x y xs n.0 (keep-in test y xs m).0 (sym e)), ih)
      go false ih = ih

-- the values of a function that differ where what it is taken of does
pub map-once : {A B : Type 0} (f : A → B) (xs : List A) → ((x y : A) → Memᴰ x xs → Memᴰ y xs → f x ≡ f y → x ≡ y) → NoRepeat xs → NoRepeat (map f xs)
map-once f [] i n = tt
map-once f (x ∷ xs) i n = (
  none_of (f x) (map f xs) (λ b m e. let g = Memᴰ.of_map f xs m in Fresh-not x g.0 xs n.0 g.1 (i g.0 x (Memᴰ.tail g.1) (Memᴰ.head refl) (g.2 ∙ sym e))),
  map-once f xs (λ y z j k e. i y z (Memᴰ.tail j) (Memᴰ.tail k) e) n.1,
)

pub numbers-once : (from count : ℕ) → NoRepeat (numbers from count)
unfolding numbers
numbers-once from zero = tt
numbers-once from (suc count) = (none_of from (numbers (from + 1) count) (λ y m e. omega (arith, (numbers-in y (from + 1) count m).0)), numbers-once (from + 1) count)

-- both ends of each line
pub ends-once : (ls : List ℕ) → NoRepeat ls → NoRepeat (flat_map (λ l. end1 l ∷ end2 l ∷ []) ls)
unfolding flat_map
ends-once [] n = tt
ends-once (l ∷ ls) n = append-once (end1 l ∷ end2 l ∷ []) (flat_map (λ l. end1 l ∷ end2 l ∷ []) ls)
    (((λ e. let q : 1 ≡ 2 = ap (λ (x : End). x.side) e in omega arith), tt), (tt, tt)) (ends-once ls n.1)
    (λ x y i j e. let f = flat_in (λ l. end1 l ∷ end2 l ∷ []) y ls j in Fresh-not l f.0 ls n.0 f.1 (sym (on_line f.0 y f.2) ∙ ap (λ (x : End). x.line) (sym e) ∙ on_line l x i))
  where
    on_line : (l : ℕ) (e : End) → Memᴰ e (end1 l ∷ end2 l ∷ []) → e.line ≡ l
    on_line l e m = ⊎_elim (λ p. ap (λ (x : End). x.line) p) (λ k. ⊎_elim (λ p. ap (λ (x : End). x.line) p) (λ k. absurd (Memᴰ.not-nil k)) (Memᴰ.cases_cons k)) (Memᴰ.cases_cons m)

-- ── sums ──
module _ {A : Type 0} where
  -- the sum over the elements that pass a test
  pub kept-sum : (f : A → ℕ) (test : A → Bool) (xs : List A) → sum (map f (keep test xs)) ≡ sum_over (λ x. on (test x) (f x)) xs
  unfolding sum keep
  kept-sum f test [] = refl
  kept-sum f test (x ∷ xs) = go (test x) (kept-sum f test xs)
    where
      go : (b : Bool) → sum (map f (keep test xs)) ≡ sum_over (λ x. on (test x) (f x)) xs
          → sum (map f (elim b as (λ z. List A) [ true ↦ x ∷ keep test xs | false ↦ keep test xs ])) ≡ on b (f x) + sum_over (λ x. on (test x) (f x)) xs
      go true ih = ap (λ n. f x + n) ih
      go false ih = omega (arith, ih)

  sum-append : (f : A → ℕ) (xs ys : List A) → sum_over f (xs ++ ys) ≡ sum_over f xs + sum_over f ys
  sum-append f [] ys = omega arith
  sum-append f (x ∷ xs) ys = omega (arith, sum-append f xs ys)

pub sum-map : {A B : Type 0} (f : B → ℕ) (g : A → B) (xs : List A) → sum_over f (map g xs) ≡ sum_over (λ x. f (g x)) xs
sum-map f g [] = refl
sum-map f g (x ∷ xs) = ap (λ n. f (g x) + n) (sum-map f g xs)

-- ── the closed ends as a graph ──
-- the far end is another end
pub far-not : (e : End) → far e ≢ e
far-not e p = let t : 3 - e.side ≡ e.side = ap (λ (x : End). x.side) p in omega arith

-- the stations and lines of the file
abbrev pub vertices : Network → List Vertex
vertices N = map (λ s. station s) (station_numbers N) ++ map (λ l. line l) (line_numbers N)

-- the customers of a vertex: a line has none
abbrev weight : Network → Vertex → ℕ
weight N (station s) = customers_of N s
weight N (line l) = 0

-- the vertex to which an end leads from another, if it is closed and at it
abbrev led : Bool → Bool → Vertex → Option Vertex
led true at v = none
led false true v = some v
led false false v = none

abbrev leads : Network → End → Vertex → Option Vertex
leads N j v = led (is_open N j) (is_at N v j) (across N v j)

module _ (N : Network) where
  -- the closed ends are listed once each
  pub closed-once : NoRepeat (closed_ends N)
  unfolding closed_ends line_numbers
  closed-once = keep-once (λ e. not (is_open N e)) (flat_map (λ l. end1 l ∷ end2 l ∷ []) (numbers 1 (length N.lines))) (ends-once (numbers 1 (length N.lines)) (numbers-once 1 (length N.lines)))

  -- and so are the stations and lines
  vertices-once : NoRepeat (vertices N)
  unfolding station_numbers line_numbers
  vertices-once = append-once (map (λ s. station s) (numbers 1 (length N.stations))) (map (λ l. line l) (numbers 1 (length N.lines)))
      (map-once (λ s. station s) (numbers 1 (length N.stations)) (λ x y _ _ e. cc) (numbers-once 1 (length N.stations)))
      (map-once (λ l. line l) (numbers 1 (length N.lines)) (λ x y _ _ e. cc) (numbers-once 1 (length N.lines)))
      (λ x y i j e. let f = Memᴰ.of_map (λ s. station s) (numbers 1 (length N.stations)) i in let g = Memᴰ.of_map (λ l. line l) (numbers 1 (length N.lines)) j in apart f.0 g.0 (f.2 ∙ e ∙ sym g.2))
    where
      apart : (s l : ℕ) → station s ≡ line l → ⊥
      apart s l e = let z : ◌≡◌ {A = ℕ} 0 1 = cc in omega arith

  -- an end leads to what it joins
  leads-is : (j : End) (u v : Vertex) → (leads N j u ≡ some v) ↔ Joins N j u v
  leads-is j u v = (λ h. go (is_open N j) (is_at N u j) refl refl h, λ h. λ i. led (joins-closed N h i) ((joins_at N h).0 i) ((joins_at N h).1 i))
    where
      go : (a b : Bool) → is_open N j ≡ a → is_at N u j ≡ b → led a b (across N u j) ≡ some v → Joins N j u v
      go true b p q h = let z : ◌≡◌ {A = ℕ} 0 1 = cc in absurd (omega arith)
      go false true p q h = let e : across N u j ≡ v = cc in subst (Joins N j u) e (at-joins N u j p q)
      go false false p q h = let z : ◌≡◌ {A = ℕ} 0 1 = cc in absurd (omega arith)

  -- an end that is not open is number 1 or 2 of its line
  pub side-of : (e : End) → is_open N e ≡ false → (1 ≤ e.side) × (e.side ≤ 2)
  side-of e c = ⊎_elim (λ p. let q : e.side ≡ 1 = ap (λ (x : End). x.side) p in (omega arith, omega arith)) (λ p. let q : e.side ≡ 2 = ap (λ (x : End). x.side) p in (omega arith, omega arith)) (closed-end N e c).2

  -- of two closed ends of a line that are not the same each is the far end of the other
  pub other-end : (j e : End) → is_open N j ≡ false → is_open N e ≡ false → j.line ≡ e.line → j ≢ e → j ≡ far e
  other-end j e a b p n = go (ℕ_discrete j.side e.side)
    where
      go : Dec (j.side ≡ e.side) → j ≡ far e
      go (yes q) = absurd (n (λ i. record { line = p i; side = q i }))
      go (no q) = let t : j.side ≡ 3 - e.side = omega (arith, side-of j a, side-of e b) in λ i. record { line = p i; side = t i }

  -- ── the customers behind a station or line, by levels ──
  -- those behind a vertex that we come to by an end, with so many levels left
  abbrev down : ℕ → End → Vertex → ℕ
  down k e v = behind same_end (leads N) (closed_ends N) (weight N) k e v

  -- one level more, at a station and at a line
  station-next : (k : ℕ) (e : End) (s : ℕ) → ((j : End) → is_open N j ≡ false → line_sum N k j ≡ down k j (line j.line)) → station_sum N (suc k) e s ≡ down (suc k) e (station s)
  unfolding station_sum is_at across
  station-next k e s ih =
      ap (λ n. customers_of N s + n) (kept-sum (λ j. line_sum N k j) (λ j. eqb (station_at N j) s && not (same_end j e)) (closed_ends N)
      ∙ sum-ext _ _ (closed_ends N) (λ j m. go j (closed_in N j m) (same_end j e) (ℕ_discrete (station_at N j) s)))
    where
      go : (j : End) → is_open N j ≡ false → (a : Bool) → Dec (station_at N j ≡ s) → on (eqb (station_at N j) s && not a) (line_sum N k j) ≡ onto a (leads N j (station s)) (λ w. down k j w)
      go j c true (yes q) = rw (eq-eqb (station_at N j) s q)
      go j c true (no q) = rw (ne_eqb (station_at N j) s q)
      go j c false (yes q) = rw (eq-eqb (station_at N j) s q, (leads-is j (station s) (line j.line)).1 (into c (ap station (sym q)) refl)) (ih j c)
      go j c false (no q) = rw (c, ne_eqb (station_at N j) s q, ne_eqb s (station_at N j) (λ p. q (sym p)))

  -- the line of an end that is at a line
  line_of : {j : End} {l : ℕ} {w : Vertex} → Joins N j (line l) w → j.line ≡ l
  line_of (out c p q) = cc
  line_of (into c p q) = cc

  line-next : (k : ℕ) (e : End) → is_open N e ≡ false → ((j : End) (s : ℕ) → station_sum N k j s ≡ down k j (station s)) → line_sum N (suc k) e ≡ down (suc k) e (line e.line)
  unfolding line_sum
  line-next k e c ih = go (is_open N (far e)) refl
    where
      -- what an end adds
      term : End → ℕ
      term j = onto (same_end j e) (leads N j (line e.line)) (λ w. down k j w)

      others : (j : End) → is_open N j ≡ false → j ≢ far e → term j ≡ 0
      others j a n = go (same_end j e) (leads N j (line e.line)) refl refl
        where
          go : (b : Bool) (o : Option Vertex) → same_end j e ≡ b → leads N j (line e.line) ≡ o → onto b o (λ w. down k j w) ≡ 0
          go true o p q = refl
          go false none p q = refl
          go false (some w) p q = absurd (n (other-end j e a c (line_of ((leads-is j (line e.line) w).0 q)) (same_false same_end-is j e p)))

      go : (b : Bool) → is_open N (far e) ≡ b → ◌≡◌ {A = ℕ} (elim b as (λ x. ℕ) [ true ↦ 0 | false ↦ station_sum N k (far e) (station_at N (far e)) ]) (0 + sum_over term (closed_ends N))
      go true q = omega (arith, sum-zero term (closed_ends N) (λ j m. others j (closed_in N j m) (λ p. true≢false (sym q ∙ ap (λ x. is_open N x) (sym p) ∙ closed_in N j m))))
      go false q = omega (
        arith,
        sum_one term (closed_ends N) (far e) (station_sum N k (far e) (station_at N (far e))) closed-once (in-closed N (far e) q)
            (rw (same_not same_end-is (far e) e (far-not e), (leads-is (far e) (line e.line) (station (station_at N (far e)))).1 (out q refl refl)) (sym (ih (far e) (station_at N (far e)))))
            (λ j m n. others j (closed_in N j m) n),
      )

  -- both sums, at every number of levels
  sums-are : (k : ℕ) → ((e : End) (s : ℕ) → station_sum N k e s ≡ down k e (station s)) × ((e : End) → is_open N e ≡ false → line_sum N k e ≡ down k e (line e.line))
  unfolding station_sum
  sums-are zero = (λ e s. refl, λ e c. refl)
  sums-are (suc k) = let r = sums-are k in (λ e s. station-next k e s r.1, λ e c. line-next k e c r.0)

  -- ── the customers of all stations whose path passes an end ──
  any-passes : (e : End) (p : List End) → any (λ d. same_end d e) p ≡ passes same_end e p
  unfolding any
  any-passes e [] = refl
  any-passes e (d ∷ p) = ap (λ b. same_end d e || b) (any-passes e p)

  -- they are those of all vertices whose path does, since a line has none
  behind_sum : (e : End) → customers_behind N e ≡ impact_of same_end (path_to_hv N) (vertices N) (weight N) e
  unfolding customers_behind
  behind_sum e =
      kept-sum (λ s. customers_of N s) (λ s. any (λ d. same_end d e) (path_to_hv N (station s))) (station_numbers N)
      ∙ sum-ext _ _ (station_numbers N) (λ s m. ap (λ b. on b (customers_of N s)) (any-passes e (path_to_hv N (station s))))
      ∙ omega (
        arith,
        sum-append share (map (λ s. station s) (station_numbers N)) (map (λ l. line l) (line_numbers N)),
        sum-map share (λ s. station s) (station_numbers N),
        sum-map share (λ l. line l) (line_numbers N),
        sum-zero (λ l. share (line l)) (line_numbers N) (λ l m. nothing (passes same_end e (path_to_hv N (line l)))),
      )
    where
      share : Vertex → ℕ
      share v = on (passes same_end e (path_to_hv N v)) (weight N v)

      nothing : (b : Bool) → on b 0 ≡ 0
      nothing true = refl
      nothing false = refl

  -- what is listed is of the file
  pub listed_in : (v : Vertex) → Memᴰ v (vertices N) → In N v
  unfolding station_numbers line_numbers
  listed_in v m = ⊎_elim
      (λ k. let f = Memᴰ.of_map (λ s. station s) (numbers 1 (length N.stations)) k in
      let i = numbers-in f.0 1 (length N.stations) f.1 in subst (In N) f.2 (i.0, omega (arith, i.1)))
      (λ k. let f = Memᴰ.of_map (λ l. line l) (numbers 1 (length N.lines)) k in
      let i = numbers-in f.0 1 (length N.lines) f.1 in subst (In N) f.2 (i.0, omega (arith, i.1)))
      (Memᴰ.append_cases (map (λ s. station s) (numbers 1 (length N.stations))) m)

module _ (N : Network) (d : Read N) (r : Rules N) where
  -- the customers behind an end, by levels, from the vertex whose path begins with it: the path and the levels together are longer than any path
  down_is : (k : ℕ) (e : End) (v w : Vertex) → Joins N e v w → path_to_hv N v ≡ e ∷ path_to_hv N w → length (closed_ends N) < length (path_to_hv N v) + k → customers_behind N e ≡ down N k e v
  down_is k e v w j p h =
      behind_sum N e
      ∙ behind-is (joins-edges N) (no-cycle N d r) (lone N d r) same_end same_end-is same_vertex same_vertex-is (leads N) (leads-is N) (closed_ends N) (closed-once N)
      (λ i u v j. in-closed N i (joins-closed N j)) (vertices N) (vertices-once N) (λ i u v j. listed-vertex N d u (joins-in N d i u v j)) (path_to_hv N)
      (λ t m. path-home N d r t (listed_in N t m)) (weight N) k e v (path_to_hv N w) (listed-vertex N d v (joins-in N d e v w j)) p h

  -- The end by which a line's path begins is its near end: the customers behind it are those behind the line.
  pub line_sum-left : (k : ℕ) (e : End) → is_open N e ≡ false → path_to_hv N (line e.line) ≡ e ∷ path_to_hv N (station (station_at N e))
      → length (closed_ends N) < length (path_to_hv N (line e.line)) + k → customers_behind N e ≡ line_sum N k e
  line_sum-left k e c p h = down_is k e (line e.line) (station (station_at N e)) (out c refl refl) p h ∙ sym ((sums-are N k).1 e c)

  module _ (k : ℕ) (h : length (closed_ends N) ≤ k) where
    pub line_sum-is : (e : End) → is_open N e ≡ false → path_to_hv N (line e.line) ≡ e ∷ path_to_hv N (station (station_at N e)) → customers_behind N e ≡ line_sum N k e
    line_sum-is e c p = line_sum-left k e c p (omega (arith, ap length p))

    -- The end by which a station's path begins is the far end of its line: the customers behind it are those behind the station.
    pub station_sum-is : (e : End) → is_open N e ≡ false → path_to_hv N (station (station_at N e)) ≡ e ∷ path_to_hv N (line e.line) → customers_behind N e ≡ station_sum N k e (station_at N e)
    station_sum-is e c p = down_is k e (station (station_at N e)) (line e.line) (into c refl refl) p (omega (arith, ap length p)) ∙ sym ((sums-are N k).0 e (station_at N e))

  -- the near and the far end of a line have the same customers behind them, if both are closed
  pub ends-alike : (e : End) → is_open N e ≡ false → is_open N (far e) ≡ false → path_to_hv N (line e.line) ≡ e ∷ path_to_hv N (station (station_at N e)) → customers_behind N e ≡ customers_behind N (far e)
  unfolding line_sum
  ends-alike e c f p =
      line_sum-is (suc (length (closed_ends N))) (omega arith) e c p
      ∙ rw (f, line_sum) (sym (station_sum-is (length (closed_ends N)) (omega arith) (far e) f (⊎_elim (λ q. absurd (far-not e (ahead q))) (λ q. q) (end-first N d r (far e) f))))
    where
      ahead : path_to_hv N (line e.line) ≡ far e ∷ path_to_hv N (station (station_at N (far e))) → far e ≡ e
      ahead q = cc

  -- the near end of a line has no customers behind it if the far end is open
  pub hanging-none : (e : End) → is_open N e ≡ false → is_open N (far e) ≡ true → path_to_hv N (line e.line) ≡ e ∷ path_to_hv N (station (station_at N e)) → customers_behind N e ≡ 0
  unfolding line_sum
  hanging-none e c f p = line_sum-is (suc (length (closed_ends N))) (omega arith) e c p ∙ rw (f, line_sum)
