-- In a graph without cycles a path is told by its ends. Paths home, that is to a root; paths read backwards.
-- Assumes nothing.
use Rattle.std.specs.Prelude.{ℕ, ◌+◌, ◌≡◌, refl, ◌≢◌, ◌⊎◌, Bool, length}
use Rattle.std.proofs.Common.{sym, ◌∙◌, ap, subst, inl, inr, arith, length-append}
use mathlib.Core.List.{List, [], ◌∷◌, ◌++◌, reverse, reverse-cons}
use Rattle.graphs.specs.Graph.{Graph, Walk, stop, step, Fresh, NoRepeat, Trail, Connected, Cyclic, Edges, Only-edges, Split, cut, split-once, Reach-trans}
use Rattle.graphs.specs.Graph.{Reach-sym, Reach→Connected, closes, avoid, start-at, end-at, append, Fresh-head, NoRepeat-tail}
use Rattle.graphs.specs.Sum.{on}

module _ {N E : Type 0} where
  -- every root is apart from every other
  abbrev pub Lone : Graph N E → (N → Type 0) → Type 0
  Lone J R = (r s : N) → R r → R s → Connected J r s → r ≡ s

  -- p is a path from v to a root
  pub record Home (J : Graph N E) (R : N → Type 0) (v : N) (p : List E) : Type 0 where
    pub root : N
    pub is-root : R root
    pub trail : Trail J v p root

-- how many of a list pass the test
abbrev pub count_of : {E : Type 0} → (E → Bool) → List E → ℕ
count_of mark [] = 0
count_of mark (i ∷ p) = on (mark i) 1 + count_of mark p

module _ {N E : Type 0} {J : Graph N E} where
  -- an edge leads to one place
  pub one_way : Edges J → (i : E) (u v w : N) → J i u v → J i u w → v ≡ w
  one_way ed i u v w j k = go (ed.two j k)
    where
      go : ((u ≡ u) × (v ≡ w)) ⊎ ((u ≡ w) × (v ≡ u)) → v ≡ w
      go (inl e) = e.1
      go (inr e) = e.1 ∙ e.0

  -- a part of a path home is a path home
  pub home-from : {R : N → Type 0} {v : N} (xs ys : List E) → Home J R v (xs ++ ys) → (w : N) × Walk J w v xs × Home J R w ys
  home-from {R} {v} xs ys h = let s = part xs h.trail.walk in (s.0, s.1, record { root = h.root; is-root = h.is-root; trail = record { walk = s.2; once = NoRepeat-tail xs ys h.trail.once } })
    where
      part : {r u : N} (xs : List E) → Walk J r u (xs ++ ys) → (w : N) × Walk J w u xs × Walk J r w ys
      part {u} [] k = (u, stop refl, k)
      part {u} (i ∷ xs) (step {w} j k) = let s = part {u = w} xs k in (s.0, step j s.1, s.2)

  pub home-tail : {R : N → Type 0} {v : N} {i : E} {p : List E} → Home J R v (i ∷ p) → (w : N) × J i v w × Home J R w p
  home-tail {R} {v} {i} {p} h = go h.trail.walk h.trail.once
    where
      go : Walk J h.root v (i ∷ p) → NoRepeat (i ∷ p) → (w : N) × J i v w × Home J R w p
      go (step {w} j t) n = (w, j, record { root = h.root; is-root = h.is-root; trail = record { walk = t; once = n.1 } })

-- not both ends of an edge are above the other
pub edge-one-way : {E : Type 0} {i : E} {p q : List E} → p ≡ i ∷ q → q ≡ i ∷ p → ⊥
edge-one-way a b = omega (arith, ap length a, ap length b)

module _ {N E : Type 0} (dec : Discrete E) {J : Graph N E} (ed : Edges J) (flat : ¬ Cyclic J) where
  -- two paths that part at once do not meet again
  parted : {u v w w' : N} {i i' : E} {p q : List E} → i ≢ i' → J i u w → Walk J v w p → Fresh i p → J i' u w' → Walk J v w' q → Fresh i' q → ⊥
  parted {u} {v} {w} {w'} {i} {i'} {p} {q} d j h f j' h' f' = go (cut dec i h')
    where
      go : Fresh i q ⊎ Split J i w' q v → ⊥
      go (inl g) = flat (closes dec ed i j (Reach-trans (_, avoid i f h) (Reach-sym (Only-edges (λ k. i ≢ k) ed) (_, avoid i (d, g) (step j' h')))))
      go (inr s) = ends (ed.two j s.passed)
        where
          ends : ((u ≡ s.x) × (w ≡ s.y)) ⊎ ((u ≡ s.y) × (w ≡ s.x)) → ⊥
          ends (inl e) = flat (closes dec ed i' j' (_, avoid i' (Fresh-head i' s.pre (i ∷ s.post) (subst (Fresh i') s.whole f')) (end-at (sym e.0) s.before)))
          ends (inr e) = flat (closes dec ed i j (Reach-sym (Only-edges (λ k. i ≢ k) ed) (_, avoid i (d, s.fresh) (step j' (end-at (sym e.1) s.before)))))

  unique-walk : {v u : N} {p q : List E} → Walk J v u p → NoRepeat p → Walk J v u q → NoRepeat q → p ≡ q
  unique-walk (stop e) n (stop d) m = refl
  unique-walk (stop e) n (step {u} {i} {p = q} j h) m = absurd (flat (record { start = u; first = i; rest = q; round = record { walk = step j (end-at (sym e) h); once = m } }))
  unique-walk (step {u} {i} {p = q} j h) n (stop e) m = absurd (flat (record { start = u; first = i; rest = q; round = record { walk = step j (end-at (sym e) h); once = n } }))
  unique-walk {v} (step {u} {i} {w} {p} j h) n (step {i = i'} {w = w'} {p = q} j' h') m = go (dec i i') (λ k. unique-walk h n.1 k m.1)
    where
      go : Dec (i ≡ i') → (Walk J v w q → p ≡ q) → (i ∷ p) ≡ (i' ∷ q)
      go (yes e) r = let t : p ≡ q = r (start-at (one_way ed i u w w' j (subst (λ k. J k u w') (sym e) j')) h') in cc
      go (no d) r = absurd (parted d j h n.0 j' h' m.0)

  -- two paths with the same ends are the same
  pub unique : {u v : N} {p q : List E} → Trail J u p v → Trail J u q v → p ≡ q
  unique s t = unique-walk s.walk s.once t.walk t.once

  module _ {R : N → Type 0} (lone : Lone J R) where
    -- there is one path home
    pub one-home : {v : N} {p q : List E} → Home J R v p → Home J R v q → p ≡ q
    one-home {v} {p} {q} h k = unique h.trail (record { walk = end-at same k.trail.walk; once = k.trail.once })
      where
        same : k.root ≡ h.root
        same = lone k.root h.root k.is-root h.is-root (Reach→Connected dec ed (Reach-trans (Reach-sym ed (q, k.trail.walk)) (p, h.trail.walk)))

    -- it goes on as the path home of the next vertex does
    pub home-next : {v w : N} {i : E} {p q : List E} → Home J R v (i ∷ p) → J i v w → Home J R w q → q ≡ p
    home-next {v} {w} {i} {p} {q} h j k = go (home-tail h)
      where
        go : (x : N) × J i v x × Home J R x p → q ≡ p
        go (x, j', t) = one-home k (record { root = t.root; is-root = t.is-root; trail = record { walk = start-at (one_way ed i v w x j j') t.trail.walk; once = t.trail.once } })

    -- of the ends of an edge one is above the other
    pub edge-up : {u v : N} {i : E} {p q : List E} → Home J R u p → Home J R v q → J i u v → (p ≡ i ∷ q) ⊎ (q ≡ i ∷ p)
    edge-up {u} {v} {i} {p} {q} hu hv j = go (cut dec i hv.trail.walk)
      where
        go : Fresh i q ⊎ Split J i v q hv.root → (p ≡ i ∷ q) ⊎ (q ≡ i ∷ p)
        go (inl f) = inl (one-home hu (record { root = hv.root; is-root = hv.is-root; trail = record { walk = step j hv.trail.walk; once = (f, hv.trail.once) } }))
        go (inr s) = ends (ed.two j s.passed)
          where
            o : Fresh i s.post × NoRepeat s.post
            o = split-once s hv.trail.once

            ends : ((u ≡ s.x) × (v ≡ s.y)) ⊎ ((u ≡ s.y) × (v ≡ s.x)) → (p ≡ i ∷ q) ⊎ (q ≡ i ∷ p)
            ends (inl x) =
                let k : q ≡ s.post = one-home hv (record { root = hv.root; is-root = hv.is-root; trail = record { walk = start-at x.1 s.after; once = o.1 } }) in
                absurd (omega (arith, ap length s.whole, ap length k, length-append s.pre (i ∷ s.post)))
            ends (inr x) =
                let k : q ≡ i ∷ s.post = one-home hv (record { root = hv.root; is-root = hv.is-root; trail = record { walk = start-at x.1 (step s.passed s.after); once = o } }) in
                let l : p ≡ s.post = one-home hu (record { root = hv.root; is-root = hv.is-root; trail = record { walk = start-at x.0 s.after; once = o.1 } }) in
                inr (k ∙ ap (λ l. i ∷ l) (sym l))

-- ── backwards ──
module _ {E : Type 0} where
  Fresh-snoc : (i j : E) (p : List E) → i ≢ j → Fresh i p → Fresh i (p ++ (j ∷ []))
  Fresh-snoc i j [] d f = (d, tt)
  Fresh-snoc i j (k ∷ p) d f = (f.0, Fresh-snoc i j p d f.1)

  Fresh-back : (i : E) (p : List E) → Fresh i p → Fresh i (reverse p)
  Fresh-back i [] f = tt
  Fresh-back i (j ∷ p) f = rw reverse-cons (Fresh-snoc i j (reverse p) f.0 (Fresh-back i p f.1))

  once-snoc : (j : E) (p : List E) → Fresh j p → NoRepeat p → NoRepeat (p ++ (j ∷ []))
  once-snoc j [] f n = (tt, tt)
  once-snoc j (k ∷ p) f n = (Fresh-snoc k j p (λ e. f.0 (sym e)) n.0, once-snoc j p f.1 n.1)

  once-back : (p : List E) → NoRepeat p → NoRepeat (reverse p)
  once-back [] n = tt
  once-back (i ∷ p) n = rw reverse-cons (once-snoc i (reverse p) (Fresh-back i p n.0) (once-back p n.1))

  count-append : (mark : E → Bool) (p q : List E) → count_of mark (p ++ q) ≡ count_of mark p + count_of mark q
  count-append mark [] q = omega arith
  count-append mark (i ∷ p) q = omega (arith, count-append mark p q)

  pub back_count : (mark : E → Bool) (p : List E) → count_of mark (reverse p) ≡ count_of mark p
  back_count mark [] = refl
  back_count mark (i ∷ p) = ap (count_of mark) (reverse-cons i p) ∙ omega (arith, count-append mark (reverse p) (i ∷ []), back_count mark p)

module _ {N E : Type 0} {J : Graph N E} (ed : Edges J) where
  walk-back : {v u : N} {p : List E} → Walk J v u p → Walk J u v (reverse p)
  walk-back (stop e) = stop (sym e)
  walk-back (step {i} {p} j h) = rw reverse-cons (append (walk-back h) (step (ed.turn j) (stop refl)))

  pub trail-back : {u v : N} {p : List E} → Trail J u p v → Trail J v (reverse p) u
  trail-back {p} t = record { walk = walk-back t.walk; once = once-back p t.once }
