-- Graphs, walks, paths and cycles, over any type N of vertices and any type E of edges.
-- A graph is a relation: `J i u v` says that the edge i joins u and v.
-- Assumes nothing.
use Rattle.std.specs.Prelude.{◌≡◌, refl, ◌≢◌, ◌⊎◌, List, [], ◌∷◌, ◌++◌}
use Rattle.std.proofs.Common.{sym, ◌∙◌, ap, subst, inl, inr}

abbrev pub Graph : Type 0 → Type 0 → Type 1
Graph N E = E → N → N → Type 0

-- i is none of the list
abbrev pub Fresh : {A : Type 0} → A → List A → Type 0
Fresh i [] = Unit {0}
Fresh i (j ∷ p) = (i ≢ j) × Fresh i p

abbrev pub NoRepeat : {A : Type 0} → List A → Type 0
NoRepeat [] = Unit {0}
NoRepeat (i ∷ p) = Fresh i p × NoRepeat p

module _ {N E : Type 0} where
  -- `Walk J v u p`: the edges p, each of which begins where the one before it ended, lead from u to v
  pub data Walk (J : Graph N E) (v : N) : N → List E → Type 0 where
    stop : {u : N} → u ≡ v → Walk J v u []
    step : {u : N} {i : E} {w : N} {p : List E} → J i u w → Walk J v w p → Walk J v u (i ∷ p)

  -- a path repeats no edge
  pub record Trail (J : Graph N E) (u : N) (p : List E) (v : N) : Type 0 where
    pub walk : Walk J v u p
    pub once : NoRepeat p

  abbrev pub Connected : Graph N E → N → N → Type 0
  Connected J u v = (p : List E) × Trail J u p v

  -- some path of one or more edges returns to its start
  pub record Cyclic (J : Graph N E) : Type 0 where
    pub start : N
    pub first : E
    pub rest : List E
    pub round : Trail J start (first ∷ rest) start

  -- a walk leads from u to v
  abbrev pub Reach : Graph N E → N → N → Type 0
  Reach J u v = (p : List E) × Walk J v u p

  -- an edge has two ends, in either order
  pub record Edges (J : Graph N E) : Type 0 where
    pub turn : {i : E} {u v : N} → J i u v → J i v u
    pub two : {i : E} {u v x y : N} → J i u v → J i x y → ((u ≡ x) × (v ≡ y)) ⊎ ((u ≡ y) × (v ≡ x))

  -- the graph of the edges that are P
  abbrev pub Only : (E → Type 0) → Graph N E → Graph N E
  Only P J i u v = P i × J i u v

  abbrev pub Without : E → Graph N E → Graph N E
  Without i J = Only (λ j. i ≢ j) J

  -- where a walk first passes the edge i, from x to y
  pub record Split (J : Graph N E) (i : E) (u : N) (p : List E) (v : N) : Type 0 where
    pub pre : List E
    pub post : List E
    pub x : N
    pub y : N
    pub before : Walk J x u pre
    pub passed : J i x y
    pub after : Walk J v y post
    pub fresh : Fresh i pre
    pub whole : p ≡ pre ++ (i ∷ post)

  pub Only-edges : (P : E → Type 0) {J : Graph N E} → Edges J → Edges (Only P J)
  Only-edges P ed = record { turn = λ h. (h.0, ed.turn h.1); two = λ h k. ed.two h.1 k.1 }

-- ── walks ──
module _ {N E : Type 0} {J : Graph N E} where
  pub append : {v u w : N} {p q : List E} → Walk J v u p → Walk J w v q → Walk J w u (p ++ q)
  append {w} {q} (stop e) k = subst (λ x. Walk J w x q) (sym e) k
  append (step j h) k = step j (append h k)

  pub start-at : {u u' v : N} {p : List E} → u ≡ u' → Walk J v u' p → Walk J v u p
  start-at e (stop d) = stop (e ∙ d)
  start-at e (step {i} {w} j h) = step (subst (λ x. J i x w) (sym e) j) h

  pub end-at : {v u v' : N} {p : List E} → v ≡ v' → Walk J v u p → Walk J v' u p
  end-at e (stop d) = stop (d ∙ e)
  end-at e (step j h) = step j (end-at e h)

  -- the first edge of a walk
  pub begins : {u v : N} {i : E} {p : List E} → Walk J v u (i ∷ p) → (w : N) × J i u w
  begins (step {w} j h) = (w, j)

  pub Reach-trans : {u v w : N} → Reach J u v → Reach J v w → Reach J u w
  Reach-trans h k = (h.0 ++ k.0, append h.1 k.1)

  pub Reach-edge : (i : E) {u v : N} → J i u v → Reach J u v
  Reach-edge i j = (i ∷ [], step j (stop refl))

  walk-sym : Edges J → {v u : N} {p : List E} → Walk J v u p → Reach J v u
  walk-sym ed (stop e) = ([], stop (sym e))
  walk-sym ed (step {i} j h) = Reach-trans (walk-sym ed h) (Reach-edge i (ed.turn j))

  pub Reach-sym : Edges J → {u v : N} → Reach J u v → Reach J v u
  Reach-sym ed h = walk-sym ed h.1

  -- a walk stays a walk in a graph that has its edges
  pub widen : {K : Graph N E} {v u : N} {p : List E} → ((i : E) (x y : N) → J i x y → K i x y) → Walk J v u p → Walk K v u p
  widen f (stop e) = stop e
  widen f (step {u} {i} {w} j h) = step (f i u w j) (widen f h)

  pub avoid : (i : E) {v u : N} {p : List E} → Fresh i p → Walk J v u p → Walk (Without i J) v u p
  avoid i f (stop e) = stop e
  avoid i f (step j h) = step (f.0, j) (avoid i f.1 h)

  pub avoids : (i : E) {v u : N} {p : List E} → Walk (Without i J) v u p → Fresh i p
  avoids i (stop e) = tt
  avoids i (step j h) = (j.0, avoids i h)

pub Cyclic-widen : {N E : Type 0} {J K : Graph N E} → ((i : E) (x y : N) → J i x y → K i x y) → Cyclic J → Cyclic K
Cyclic-widen f c = record { start = c.start; first = c.first; rest = c.rest; round = record { walk = widen f c.round.walk; once = c.round.once } }

-- ── what a list without repeats leaves to its parts ──
module _ {A : Type 0} where
  pub Fresh-tail : (i : A) (p q : List A) → Fresh i (p ++ q) → Fresh i q
  Fresh-tail i [] q f = f
  Fresh-tail i (j ∷ p) q f = Fresh-tail i p q f.1

  pub Fresh-head : (i : A) (p q : List A) → Fresh i (p ++ q) → Fresh i p
  Fresh-head i [] q f = tt
  Fresh-head i (j ∷ p) q f = (f.0, Fresh-head i p q f.1)

  pub NoRepeat-tail : (p q : List A) → NoRepeat (p ++ q) → NoRepeat q
  NoRepeat-tail [] q n = n
  NoRepeat-tail (j ∷ p) q n = NoRepeat-tail p q n.1

-- of a walk without repeats, what is left after the edge i passes it no more
pub split-once : {N E : Type 0} {J : Graph N E} {i : E} {u v : N} {p : List E} (s : Split J i u p v) → NoRepeat p → Fresh i s.post × NoRepeat s.post
split-once {i} s n = NoRepeat-tail s.pre (i ∷ s.post) (subst NoRepeat s.whole n)

module _ {N E : Type 0} (dec : Discrete E) {J : Graph N E} where
  -- a walk does not pass i, or there is a first place where it does
  pub cut : (i : E) {v u : N} {p : List E} → Walk J v u p → Fresh i p ⊎ Split J i u p v
  cut i (stop e) = inl tt
  cut i {v} {u} (step {i = j} {w} {p} e h) = go (dec i j) (cut i h)
    where
      go : Dec (i ≡ j) → Fresh i p ⊎ Split J i w p v → Fresh i (j ∷ p) ⊎ Split J i u (j ∷ p) v
      go (yes q) r = inr (record { pre = []; post = p; x = u; y = w; before = stop refl; passed = subst (λ k. J k u w) (sym q) e; after = h; fresh = tt; whole = ap (λ k. k ∷ p) (sym q) })
      go (no d) (inl f) = inl (d, f)
      go (no d) (inr s) = inr (record { pre = j ∷ s.pre; post = s.post; x = s.x; y = s.y; before = step e s.before; passed = s.passed; after = s.after; fresh = (d, s.fresh); whole = ap (λ k. j ∷ k) s.whole })

  -- where a walk leads, a path leads
  pub to-path : Edges J → {v u : N} {p : List E} → Walk J v u p → Connected J u v
  to-path ed (stop e) = ([], record { walk = stop e; once = tt })
  to-path ed {v} {u} (step {i} {w} j h) = add (to-path ed h)
    where
      add : Connected J w v → Connected J u v
      add (q, t) = drop (cut i t.walk)
        where
          drop : Fresh i q ⊎ Split J i w q v → Connected J u v
          drop (inl f) = (i ∷ q, record { walk = step j t.walk; once = (f, t.once) })
          drop (inr s) = turned (ed.two j s.passed)
            where
              turned : ((u ≡ s.x) × (w ≡ s.y)) ⊎ ((u ≡ s.y) × (w ≡ s.x)) → Connected J u v
              turned (inl e) = (i ∷ s.post, record { walk = start-at e.0 (step s.passed s.after); once = split-once s t.once })
              turned (inr e) = (s.post, record { walk = start-at e.0 s.after; once = (split-once s t.once).1 })

  pub Reach→Connected : Edges J → {u v : N} → Reach J u v → Connected J u v
  Reach→Connected ed h = to-path ed h.1

-- an edge whose ends are joined without it closes a cycle
pub closes : {N E : Type 0} (dec : Discrete E) {J : Graph N E} → Edges J → (i : E) {x y : N} → J i x y → Reach (Without i J) y x → Cyclic J
closes dec {J} ed i {x} {y} j r = go (to-path dec (Only-edges (λ k. i ≢ k) ed) r.1)
  where
    go : Connected (Without i J) y x → Cyclic J
    go (p, t) = record {
      start = x;
      first = i;
      rest = p;
      round = record { walk = step j (widen (λ _ _ _ k. k.1) t.walk); once = (avoids i t.walk, t.once) };
    }
