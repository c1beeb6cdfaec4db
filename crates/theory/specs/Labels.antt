-- Labels of the stations decide the rules 6, 7 and 8. Each station starts with its own label. Line by line, where both ends are
-- closed, a path returns if the two stations have one label; if not, every station with the first label gets the second.
use Rattle.std.specs.Prelude.{ℕ, ◌+◌, ◌-◌, ◌≤◌, ◌<◌, ◌≡◌, Bool, not, ◌&&◌, cond, ◌≢◌, ◌↔◌, ◌⊎◌, length, get_or, leb, eqb}
use Rattle.std.proofs.Math.Path.{refl, ap, subst}
use Rattle.std.proofs.Common.{sym, ◌∙◌, inl, inr, ⊎_elim, arith}
use Rattle.std.proofs.Math.Bool.{true, false, true≢false}
use mathlib.Core.List.{List, [], ◌∷◌, ◌++◌, map, Memᴰ}
use Rattle.std.proofs.Math.Decide.{ℕ_discrete, dec_le}
use borrow.Author.Tests.{le-leb, lt-leb, ne_eqb, not-true}
use Rattle.model.specs.Lists.{any}
use Rattle.model.specs.Network.{Network}
use Rattle.model.specs.Paths.{Vertex, station, line, same_vertex, End, end1, end2, is_open, station_at, paths, target, is_hv, at_hv, station_numbers, line_numbers}
use Rattle.model.specs.Rules.{both_open, returns_to, some_path_returns, joins_another, some_joined, is_supplied}
use Rattle.graphs.specs.Graph.{Graph, Trail, Connected, Cyclic, Edges, Only, Only-edges, Cyclic-widen}
use Rattle.graphs.specs.Labels.{Labels, relabel, relabel-same, relabel-other, labels-relab, labels-carry, labels-none, labels-round, labels-grow}
use Rattle.savings.specs.Facts.{both}
use Rattle.theory.specs.Reading.{Read}
use Rattle.theory.specs.Ends.{any-in, any_out, same_vertex-is, end-discrete, Joins, out, joins-edges, joins-closed, closed-end, walk_target, paths-are}
use Rattle.theory.specs.Radial.{In, station-in, joins-in, path-listed, root_in, cycle-returns, connected-joined}

-- the label of station s, where that of station 1 is the first of the list
abbrev pub label_of : List ℕ → ℕ → ℕ
label_of labels s = get_or labels (s - 1) 0

-- end 1 of a line where it is closed, else end 2
abbrev pub closed_end : Network → ℕ → End
closed_end N l = cond (is_open N (end1 l)) (end2 l) (end1 l)

-- The labels of all vertices when the first k lines are joined. Each of these lines has the label of a station that it is joined
-- to, and each line behind them a label that no other vertex has.
abbrev pub vertex_label : Network → ℕ → List ℕ → Vertex → ℕ
vertex_label N k labels (station s) = label_of labels s
vertex_label N k labels (line l) = cond (leb l k) (label_of labels (station_at N (closed_end N l))) (length N.stations + l)

-- the graph of the ends of the first k lines
abbrev pub FirstLines : Network → ℕ → Graph Vertex End
FirstLines N k = Only (λ e. e.line ≤ k) (Joins N)

-- the labels of the stations tell what the first k lines connect, and there is no cycle among these
pub record Labelled (N : Network) (k : ℕ) (labels : List ℕ) : Type 0 where
  pub low : (s : ℕ) → 1 ≤ s → s ≤ length N.stations → label_of labels s ≤ length N.stations
  pub tells : Labels (In N) (FirstLines N k) (vertex_label N k labels)

module _ (N : Network) where
  line-done : (k : ℕ) (labels : List ℕ) (l : ℕ) → l ≤ k → vertex_label N k labels (line l) ≡ label_of labels (station_at N (closed_end N l))
  line-done k labels l h = rw (le-leb l k h)

  line-left : (k : ℕ) (labels : List ℕ) (l : ℕ) → k < l → vertex_label N k labels (line l) ≡ length N.stations + l
  line-left k labels l h = rw (lt-leb l k h)

  closed_end-line : (l : ℕ) → (closed_end N l).line ≡ l
  closed_end-line l = go (is_open N (end1 l))
    where
      go : (b : Bool) → (cond b (end2 l) (end1 l)).line ≡ l
      go true = refl
      go false = refl

  closed_end-1 : (l : ℕ) → is_open N (end1 l) ≡ false → closed_end N l ≡ end1 l
  closed_end-1 l h = rw h

  closed_end-2 : (l : ℕ) → is_open N (end1 l) ≡ true → closed_end N l ≡ end2 l
  closed_end-2 l h = rw h

  -- by rule 4 it is closed
  closed_end-closed : (l : ℕ) → both_open N l ≡ false → is_open N (closed_end N l) ≡ false
  unfolding both_open
  closed_end-closed l h = go (is_open N (end1 l)) refl h
    where
      go : (b : Bool) → is_open N (end1 l) ≡ b → (b && is_open N (end2 l)) ≡ false → is_open N (closed_end N l) ≡ false
      go true q h = ap (λ e. is_open N e) (closed_end-2 l q) ∙ h
      go false q h = ap (λ e. is_open N e) (closed_end-1 l q) ∙ q

  -- where one end of a line is open, no other end is closed
  closed_end-only : (l : ℕ) → (is_open N (end1 l) ≡ true) ⊎ (is_open N (end2 l) ≡ true) → (e : End) → e.line ≡ l → is_open N e ≡ false → e ≡ closed_end N l
  closed_end-only l h e p c = go (is_open N (end1 l)) refl h (closed-end N e c).2
    where
      go : (b : Bool) → is_open N (end1 l) ≡ b → (is_open N (end1 l) ≡ true) ⊎ (is_open N (end2 l) ≡ true) → (e ≡ end1 e.line) ⊎ (e ≡ end2 e.line) → e ≡ closed_end N l
      go true q h (inl x) = absurd (true≢false (sym q ∙ ap (λ k. is_open N (end1 k)) (sym p) ∙ ap (λ d. is_open N d) (sym x) ∙ c))
      go true q h (inr x) = x ∙ ap end2 p ∙ sym (closed_end-2 l q)
      go false q h (inl x) = x ∙ ap end1 p ∙ sym (closed_end-1 l q)
      go false q (inl y) (inr x) = absurd (true≢false (sym y ∙ q))
      go false q (inr y) (inr x) = absurd (true≢false (sym y ∙ ap (λ k. is_open N (end2 k)) (sym p) ∙ ap (λ d. is_open N d) (sym x) ∙ c))

relabel-low : (x y k most : ℕ) → y ≤ most → k ≤ most → relabel x y k ≤ most
relabel-low x y k most h l = go (eqb k x)
  where
    go : (b : Bool) → cond b y k ≤ most
    go true = h
    go false = l

-- ── the loop over the lines ──
module _ (N : Network) (d : Read N) where
  -- no line yet: each station has its own number
  pub labelled-start : (labels : List ℕ) → ((s : ℕ) → 1 ≤ s → s ≤ length N.stations → label_of labels s ≡ s) → Labelled N 0 labels
  labelled-start labels h = record {
    low = λ s a b. omega (arith, h s a b);
    tells = labels-none (λ e x y j. omega (arith, j.0, (closed-end N e (joins-closed N j.1)).0)) own;
  }
    where
      own : (u v : Vertex) → In N u → In N v → vertex_label N 0 labels u ≡ vertex_label N 0 labels v → u ≡ v
      own (station s) (station t) i j e = ap station (omega (arith, h s i.0 i.1, h t j.0 j.1, e))
      own (station s) (line l) i j e = absurd (omega (arith, i.1, j.0, h s i.0 i.1, e, line-left N 0 labels l j.0))
      own (line l) (station s) i j e = absurd (omega (arith, j.1, i.0, h s j.0 j.1, e, line-left N 0 labels l i.0))
      own (line l) (line m) i j e = ap line (omega (arith, e, line-left N 0 labels l i.0, line-left N 0 labels m j.0))

  -- line k + 1 follows
  module _ (k : ℕ) (labels : List ℕ) (inside : k < length N.lines) (some-closed : both_open N (k + 1) ≡ false) (L : Labelled N k labels) where
    -- the first k lines, and the first closed end of the next
    abbrev Between : Graph Vertex End
    Between = Only (λ e. (e.line ≤ k) ⊎ (e ≡ closed_end N (k + 1))) (Joins N)

    between-edges : Edges Between
    between-edges = Only-edges (λ e. (e.line ≤ k) ⊎ (e ≡ closed_end N (k + 1))) (joins-edges N)

    lines-edges : (n : ℕ) → Edges (FirstLines N n)
    lines-edges n = Only-edges (λ e. e.line ≤ n) (joins-edges N)

    closed-low : (e : End) → 1 ≤ e.line → e.line ≤ length N.lines → label_of labels (station_at N e) ≤ length N.stations
    closed-low e a b = let i = station-in N d e a b in L.low (station_at N e) i.0 i.1

    done-low : (l : ℕ) → 1 ≤ l → l ≤ length N.lines → label_of labels (station_at N (closed_end N l)) ≤ length N.stations
    done-low l a b = closed-low (closed_end N l) (omega (arith, closed_end-line N l)) (omega (arith, closed_end-line N l))

    -- the next line gets the label of its first closed end's station
    between : Labels (In N) Between (vertex_label N (k + 1) labels)
    between = labels-relab _ (vertex_label N (k + 1) labels) told
        (labels-grow end-discrete {J = FirstLines N k} {K = Between} (closed_end N (k + 1)) (line (k + 1)) (station (station_at N (closed_end N (k + 1)))) (vertex_label N k labels)
        (lines-edges k) between-edges (λ e u v j. joins-in N d e u v j.1)
        (λ e x y j. (inl j.0, j.1)) (λ e x y j q. (⊎_elim (λ h. h) (λ p. absurd (q p)) j.0, j.1))
        (λ x y j. omega (arith, j.0, closed_end-line N (k + 1)))
        (inr refl, out (closed_end-closed N (k + 1) some-closed) (ap line (sym (closed_end-line N (k + 1)))) refl)
        L.tells apart)
      where
        a : ℕ
        a = vertex_label N k labels (line (k + 1))

        b : ℕ
        b = label_of labels (station_at N (closed_end N (k + 1)))

        a-is : a ≡ length N.stations + (k + 1)
        a-is = line-left N k labels (k + 1) (omega arith)

        b-low : b ≤ length N.stations
        b-low = done-low (k + 1) (omega arith) (omega arith)

        apart : a ≢ b
        apart e = omega (arith, e, a-is, b-low)

        told : (v : Vertex) → In N v → relabel a b (vertex_label N k labels v) ≡ vertex_label N (k + 1) labels v
        told (station s) i = relabel-other a b (label_of labels s) (λ e. omega (arith, e, a-is, L.low s i.0 i.1))
        told (line l) i = go (dec_le l k) (ℕ_discrete l (k + 1))
          where
            go : Dec (l ≤ k) → Dec (l ≡ k + 1) → relabel a b (vertex_label N k labels (line l)) ≡ vertex_label N (k + 1) labels (line l)
            go (yes h) q =
                let x = line-done N k labels l h in
                relabel-other a b (vertex_label N k labels (line l)) (λ e. omega (arith, e, x, a-is, done-low l i.0 i.1)) ∙ x ∙ sym (line-done N (k + 1) labels l (omega arith))
            go (no h) (yes q) =
                relabel-same a b (vertex_label N k labels (line l)) (ap (λ n. vertex_label N k labels (line n)) q)
                ∙ ap (λ n. label_of labels (station_at N (closed_end N n))) (sym q) ∙ sym (line-done N (k + 1) labels l (omega arith))
            go (no h) (no q) =
                let x = line-left N k labels l (omega arith) in
                relabel-other a b (vertex_label N k labels (line l)) (λ e. omega (arith, e, x, a-is)) ∙ x ∙ sym (line-left N (k + 1) labels l (omega arith))

    wider : (e : End) (x y : Vertex) → Between e x y → FirstLines N (k + 1) e x y
    wider e x y j = (⊎_elim (λ p. omega (arith, p)) (λ p. omega (arith, ap (λ (x : End). x.line) p, closed_end-line N (k + 1))) j.0, j.1)

    -- a line with an open end changes nothing
    pub labelled-skip : (is_open N (end1 (k + 1)) ≡ true) ⊎ (is_open N (end2 (k + 1)) ≡ true) → Labelled N (k + 1) labels
    labelled-skip h = record {
      low = L.low;
      tells = labels-carry wider (λ e x y j. (last e j.0 (joins-closed N j.1) (dec_le e.line k), j.1)) between;
    }
      where
        last : (e : End) → e.line ≤ k + 1 → is_open N e ≡ false → Dec (e.line ≤ k) → (e.line ≤ k) ⊎ (e ≡ closed_end N (k + 1))
        last e a c (yes p) = inl p
        last e a c (no p) = inr (closed_end-only N (k + 1) h e (omega arith) c)

    -- both ends of the line are closed
    module _ (closed1 : is_open N (end1 (k + 1)) ≡ false) (closed2 : is_open N (end2 (k + 1)) ≡ false) where
      first : closed_end N (k + 1) ≡ end1 (k + 1)
      first = closed_end-1 N (k + 1) closed1

      line-is : vertex_label N (k + 1) labels (line (k + 1)) ≡ label_of labels (station_at N (end1 (k + 1)))
      line-is = line-done N (k + 1) labels (k + 1) (omega arith) ∙ ap (λ e. label_of labels (station_at N e)) first

      narrower : (e : End) (x y : Vertex) → FirstLines N (k + 1) e x y → e ≢ end2 (k + 1) → Between e x y
      narrower e x y j q = (go (dec_le e.line k) (closed-end N e (joins-closed N j.1)).2, j.1)
        where
          go : Dec (e.line ≤ k) → (e ≡ end1 e.line) ⊎ (e ≡ end2 e.line) → (e.line ≤ k) ⊎ (e ≡ closed_end N (k + 1))
          go (yes p) h = inl p
          go (no p) (inl h) = inr (h ∙ ap end1 (omega (arith, j.0)) ∙ sym first)
          go (no p) (inr h) = absurd (q (h ∙ ap end2 (omega (arith, j.0))))

      absent : (x y : Vertex) → ¬ Between (end2 (k + 1)) x y
      absent x y j = ⊎_elim (λ p. omega (arith, p)) (λ p. omega (arith, ap (λ (x : End). x.side) (p ∙ first))) j.0

      new : FirstLines N (k + 1) (end2 (k + 1)) (line (k + 1)) (station (station_at N (end2 (k + 1))))
      new = (omega arith, out closed2 refl refl)

      -- two stations of one label: a path returns
      pub labelled-return : label_of labels (station_at N (end1 (k + 1))) ≡ label_of labels (station_at N (end2 (k + 1))) → some_path_returns N ≡ true
      labelled-return e = cycle-returns N d (Cyclic-widen (λ e x y j. j.1)
          (labels-round end-discrete {J = Between} {K = FirstLines N (k + 1)} (end2 (k + 1)) (line (k + 1)) (station (station_at N (end2 (k + 1)))) (vertex_label N (k + 1) labels)
          between-edges (lines-edges (k + 1)) (λ e u v j. joins-in N d e u v j.1) wider narrower absent new between (line-is ∙ e)))

      -- two labels become one
      pub labelled-join : (labels' : List ℕ) → label_of labels (station_at N (end1 (k + 1))) ≢ label_of labels (station_at N (end2 (k + 1)))
          → ((s : ℕ) → 1 ≤ s → s ≤ length N.stations
          → label_of labels' s ≡ relabel (label_of labels (station_at N (end1 (k + 1)))) (label_of labels (station_at N (end2 (k + 1)))) (label_of labels s))
          → Labelled N (k + 1) labels'
      labelled-join labels' apart h = record {
        low = λ s a b. subst (λ n. n ≤ length N.stations) (sym (h s a b)) (relabel-low x y (label_of labels s) (length N.stations) (closed-low (end2 (k + 1)) (omega arith) (omega arith)) (L.low s a b));
        tells = labels-relab _ (vertex_label N (k + 1) labels') told
            (labels-grow end-discrete {J = Between} {K = FirstLines N (k + 1)} (end2 (k + 1)) (line (k + 1)) (station (station_at N (end2 (k + 1)))) (vertex_label N (k + 1) labels)
            between-edges (lines-edges (k + 1)) (λ e u v j. joins-in N d e u v j.1) wider narrower absent new between (λ e. apart (sym line-is ∙ e)));
      }
        where
          x : ℕ
          x = label_of labels (station_at N (end1 (k + 1)))

          y : ℕ
          y = label_of labels (station_at N (end2 (k + 1)))

          z : ℕ
          z = vertex_label N (k + 1) labels (line (k + 1))

          at-station : (s : ℕ) → In N (station s) → relabel z y (label_of labels s) ≡ label_of labels' s
          at-station s i = ap (λ n. relabel n y (label_of labels s)) line-is ∙ sym (h s i.0 i.1)

          told : (v : Vertex) → In N v → relabel z y (vertex_label N (k + 1) labels v) ≡ vertex_label N (k + 1) labels' v
          told (station s) i = at-station s i
          told (line l) i = go (dec_le l (k + 1))
            where
              go : Dec (l ≤ k + 1) → relabel z y (vertex_label N (k + 1) labels (line l)) ≡ vertex_label N (k + 1) labels' (line l)
              go (yes p) =
                  ap (relabel z y) (line-done N (k + 1) labels l p)
                  ∙ at-station (station_at N (closed_end N l)) (station-in N d (closed_end N l) (omega (arith, i.0, closed_end-line N l)) (omega (arith, i.1, closed_end-line N l)))
                  ∙ sym (line-done N (k + 1) labels' l p)
              go (no p) =
                  let q = line-left N (k + 1) labels l (omega arith) in
                  relabel-other z y (vertex_label N (k + 1) labels (line l)) (λ e. omega (arith, e, q, line-is, closed-low (end1 (k + 1)) (omega arith) (omega arith)))
                  ∙ q ∙ sym (line-left N (k + 1) labels' l (omega arith))

-- ── the rules ──
module _ (N : Network) (d : Read N) where
  -- a path that returns is a cycle
  returns-cycle : some_path_returns N ≡ true → Cyclic (Joins N)
  unfolding some_path_returns returns_to
  returns-cycle h =
      let v = any_out (λ v. any (λ es. returns_to N v es) (paths N v)) (map (λ s. station s) (station_numbers N) ++ map (λ l. line l) (line_numbers N)) h in
      let p = any_out (λ es. returns_to N v.0 es) (paths N v.0) v.2 in
      go v.0 p.0 p.1 p.2
    where
      go : (v : Vertex) (es : List End) → Memᴰ es (paths N v) → returns_to N v es ≡ true → Cyclic (Joins N)
      go v [] m h = absurd (true≢false (sym h))
      go v (e ∷ es) m h = record { start = v; first = e; rest = es; round = subst (Trail (Joins N) v (e ∷ es)) ((same_vertex-is (target N v (e ∷ es)) v).0 h) ((paths-are N v (e ∷ es)).0 m) }

  -- where a listed path leads to an HV station, that station is connected
  path-connects : (s : ℕ) (es : List End) → Memᴰ es (paths N (station s)) → at_hv N (target N (station s) es) ≡ true
      → (h : ℕ) × (is_hv N h ≡ true) × (target N (station s) es ≡ station h) × Connected (Joins N) (station s) (station h)
  unfolding at_hv
  path-connects s es m a = go (target N (station s) es) refl a
    where
      go : (v : Vertex) → target N (station s) es ≡ v → at_hv N v ≡ true → (h : ℕ) × (is_hv N h ≡ true) × (target N (station s) es ≡ station h) × Connected (Joins N) (station s) (station h)
      go (station h) q b = (h, b, q, (es, subst (Trail (Joins N) (station s) es) q ((paths-are N (station s) es).0 m)))
      go (line l) q b = absurd (true≢false (sym b))

  joined_is : (some_joined N ≡ true) ↔ ((g h : ℕ) × (is_hv N g ≡ true) × (is_hv N h ≡ true) × (g ≢ h) × Connected (Joins N) (station g) (station h))
  unfolding some_joined joins_another at_hv
  joined_is = (
    λ j.
        let g = any_out (λ h. is_hv N h && any (λ es. joins_another N h es) (paths N (station h))) (station_numbers N) j in
        let b = both (is_hv N g.0) (any (λ es. joins_another N g.0 es) (paths N (station g.0))) g.2 in
        let p = any_out (λ es. joins_another N g.0 es) (paths N (station g.0)) b.1 in
        go g.0 p.0 b.0 p.1 p.2,
    λ j. connected-joined N d j.0 (station j.1) j.2 j.3 (ne_eqb j.1 j.0 (λ e. j.4 (sym e))) j.5,
  )
    where
      go : (g : ℕ) (es : List End) → is_hv N g ≡ true → Memᴰ es (paths N (station g)) → joins_another N g es ≡ true
          → (g h : ℕ) × (is_hv N g ≡ true) × (is_hv N h ≡ true) × (g ≢ h) × Connected (Joins N) (station g) (station h)
      go g es a m q =
          let t = both (at_hv N (target N (station g) es)) (not (same_vertex (target N (station g) es) (station g))) q in
          let c = path-connects g es m t.0 in
          (g, c.0, a, c.1, λ e. true≢false (sym ((same_vertex-is (target N (station g) es) (station g)).1 (c.2 ∙ ap station (sym e))) ∙ not-true (same_vertex (target N (station g) es) (station g)) t.1), c.3)

  supplied-is : (s : ℕ) → (is_supplied N s ≡ true) ↔ ((h : ℕ) × (is_hv N h ≡ true) × Connected (Joins N) (station s) (station h))
  unfolding is_supplied at_hv
  supplied-is s = (
    λ j.
        let p = any_out (λ es. at_hv N (target N (station s) es)) (paths N (station s)) j in
        let c = path-connects s p.0 p.1 p.2 in
        (c.0, c.1, c.3),
    λ j. any-in (λ es. at_hv N (target N (station s) es)) j.2.0 (paths N (station s)) (path-listed N d j.2.1) (ap (λ v. at_hv N v) (walk_target N j.2.1.walk) ∙ j.1),
  )

  -- an HV station is a station of the file
  pub hv-in : (h : ℕ) → is_hv N h ≡ true → In N (station h)
  unfolding at_hv
  hv-in h p = root_in N d (station h) p

  -- all lines are joined
  module _ (labels : List ℕ) (L : Labelled N (length N.lines) labels) where
    whole : Labels (In N) (Joins N) (vertex_label N (length N.lines) labels)
    whole = labels-carry (λ e x y j. j.1) (λ e x y j. ((closed-end N e (joins-closed N j)).1, j)) L.tells

    -- rule 6: no path returns
    pub labelled-end : some_path_returns N ≡ false
    labelled-end = go (some_path_returns N) refl
      where
        go : (b : Bool) → some_path_returns N ≡ b → b ≡ false
        go true e = absurd (whole.flat (returns-cycle e))
        go false e = refl

    -- rule 7: a path joins two HV stations where two have one label
    pub labelled-joined : (some_joined N ≡ true) ↔ ((g h : ℕ) × (is_hv N g ≡ true) × (is_hv N h ≡ true) × (g ≢ h) × (label_of labels g ≡ label_of labels h))
    labelled-joined = (
      λ j. let x = joined_is.0 j in (x.0, x.1, x.2, x.3, x.4, (whole.same (station x.0) (station x.1) (hv-in x.0 x.2) (hv-in x.1 x.3)).1 x.5),
      λ x. joined_is.1 (x.0, x.1, x.2, x.3, x.4, (whole.same (station x.0) (station x.1) (hv-in x.0 x.2) (hv-in x.1 x.3)).0 x.5),
    )

    -- rule 8: a station is supplied where an HV station has its label
    pub labelled-supplied : (s : ℕ) → 1 ≤ s → s ≤ length N.stations → (is_supplied N s ≡ true) ↔ ((h : ℕ) × (is_hv N h ≡ true) × (label_of labels s ≡ label_of labels h))
    labelled-supplied s a b = (
      λ j. let x = (supplied-is s).0 j in (x.0, x.1, (whole.same (station s) (station x.0) (a, b) (hv-in x.0 x.1)).1 x.2),
      λ x. (supplied-is s).1 (x.0, x.1, (whole.same (station s) (station x.0) (a, b) (hv-in x.0 x.1)).0 x.2),
    )
