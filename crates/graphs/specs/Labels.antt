-- Labels that say which vertices are connected, kept while edges are added one by one.
-- Assumes nothing.
use Rattle.std.specs.Prelude.{ℕ, ◌≡◌, refl, ◌≢◌, ◌↔◌, ◌⊎◌, List, [], ◌∷◌, cond, eqb}
use Rattle.std.proofs.Common.{sym, ◌∙◌, ap, subst, inl, inr, eq-eqb, ne_eqb}
use Rattle.std.proofs.Math.Decide.{ℕ_discrete}
use Rattle.graphs.specs.Graph.{Graph, Walk, stop, step, Fresh, Connected, Cyclic, Reach, Edges, Without, Split, cut, split-once, begins, Reach-trans}
use Rattle.graphs.specs.Graph.{Reach-edge, Reach→Connected, closes, widen, Cyclic-widen, avoid}

-- the labels of the vertices that are In tell what is connected, and there is no cycle
pub record Labels {N E : Type 0} (In : N → Type 0) (J : Graph N E) (lab : N → ℕ) : Type 0 where
  pub same : (u v : N) → In u → In v → (lab u ≡ lab v) ↔ Connected J u v
  pub flat : ¬ Cyclic J

-- the label x becomes y
abbrev pub relabel : ℕ → ℕ → ℕ → ℕ
relabel x y k = cond (eqb k x) y k

pub relabel-same : (x y k : ℕ) → k ≡ x → relabel x y k ≡ y
relabel-same x y k e = rw (eq-eqb k x e)

pub relabel-other : (x y k : ℕ) → k ≢ x → relabel x y k ≡ k
relabel-other x y k d = rw (ne_eqb k x d)

module _ {N E : Type 0} {In : N → Type 0} {J : Graph N E} where
  -- only the labels of the vertices that are In count
  pub labels-relab : (lab lab' : N → ℕ) → ((v : N) → In v → lab v ≡ lab' v) → Labels In J lab → Labels In J lab'
  labels-relab lab lab' h L = record {
    same = λ u v l k. (λ e. (L.same u v l k).0 (h u l ∙ e ∙ sym (h v k)), λ p. sym (h u l) ∙ (L.same u v l k).1 p ∙ h v k);
    flat = L.flat;
  }

  -- two graphs with the same edges have the same labels
  pub labels-carry : {K : Graph N E} {lab : N → ℕ} → ((i : E) (x y : N) → J i x y → K i x y) → ((i : E) (x y : N) → K i x y → J i x y) → Labels In J lab → Labels In K lab
  labels-carry f g L = record {
    same = λ u v l k. (
      λ e. let c = (L.same u v l k).0 e in (c.0, record { walk = widen f c.1.walk; once = c.1.once }),
      λ c. (L.same u v l k).1 (c.0, record { walk = widen g c.1.walk; once = c.1.once }),
    );
    flat = λ c. L.flat (Cyclic-widen g c);
  }

  -- where there is no edge every vertex has its own label
  pub labels-none : {lab : N → ℕ} → ((i : E) (x y : N) → ¬ J i x y) → ((u v : N) → In u → In v → lab u ≡ lab v → u ≡ v) → Labels In J lab
  labels-none {lab} none own = record {
    same = λ u v l k. (λ e. ([], record { walk = stop (own u v l k e); once = tt }), λ c. ap lab (stays c.1.walk));
    flat = λ c. let w = begins c.round.walk in none c.first c.start w.0 w.1;
  }
    where
      stays : {u v : N} {p : List E} → Walk J v u p → u ≡ v
      stays (stop e) = e
      stays (step {u} {i} {w} j h) = absurd (none i u w j)

  walk-in : Edges J → ((i : E) (x y : N) → J i x y → In x) → {v u : N} {p : List E} → In u → Walk J v u p → In v
  walk-in ed low l (stop e) = subst In e l
  walk-in ed low l (step {u} {i} {w} j h) = walk-in ed low (low i w u (ed.turn j)) h

-- K has the edges of J and one more, e, which joins a and b
module _ {N E : Type 0} (dec : Discrete E) {In : N → Type 0} {J K : Graph N E} (e : E) (a b : N) (lab : N → ℕ)
    (ej : Edges J) (ek : Edges K) (low : (i : E) (u v : N) → K i u v → In u)
    (wider : (i : E) (x y : N) → J i x y → K i x y) (narrower : (i : E) (x y : N) → K i x y → i ≢ e → J i x y)
    (absent : (x y : N) → ¬ J e x y) (new : K e a b) (L : Labels In J lab) where
  in-a : In a
  in-a = low e a b new

  in_b : In b
  in_b = low e b a (ek.turn new)

  narrow : (i : E) (x y : N) → Without e K i x y → J i x y
  narrow i x y j = narrower i x y j.1 (λ q. j.0 (sym q))

  without : (i : E) (x y : N) → J i x y → Without e K i x y
  without i x y j = (λ q. absent x y (subst (λ k. J k x y) (sym q) j), wider i x y j)

  reached : {u v : N} {p : List E} → In u → Walk J v u p → lab u ≡ lab v
  reached {u} {v} l h = (L.same u v l (walk-in ej (λ i x y j. low i x y (wider i x y j)) l h)).1 (Reach→Connected dec ej (_, h))

  linked : (u v : N) → In u → In v → lab u ≡ lab v → Reach K u v
  linked u v l k q = let p = (L.same u v l k).0 q in (p.0, widen wider p.1.walk)

  -- an edge between two vertices of one label closes a cycle
  pub labels-round : lab a ≡ lab b → Cyclic K
  labels-round q = let p = (L.same b a in_b in-a).0 (sym q) in closes dec ek e new (p.0, widen without p.1.walk)

  module _ (apart : lab a ≢ lab b) where
    step_kept : (i : E) (x y : N) → Dec (i ≡ e) → K i x y → relabel (lab a) (lab b) (lab x) ≡ relabel (lab a) (lab b) (lab y)
    step_kept i x y (no d) j = ap (relabel (lab a) (lab b)) (reached (low i x y j) (step (narrower i x y j d) (stop refl)))
    step_kept i x y (yes q) j = ends (ek.two new (subst (λ k. K k x y) q j))
      where
        met : relabel (lab a) (lab b) (lab a) ≡ relabel (lab a) (lab b) (lab b)
        met = relabel-same (lab a) (lab b) (lab a) refl ∙ sym (relabel-other (lab a) (lab b) (lab b) (λ q. apart (sym q)))

        ends : ((a ≡ x) × (b ≡ y)) ⊎ ((a ≡ y) × (b ≡ x)) → relabel (lab a) (lab b) (lab x) ≡ relabel (lab a) (lab b) (lab y)
        ends (inl (p, q)) = cc met
        ends (inr (p, q)) = cc met

    walk_kept : {v u : N} {p : List E} → Walk K v u p → relabel (lab a) (lab b) (lab u) ≡ relabel (lab a) (lab b) (lab v)
    walk_kept (stop q) = ap (λ x. relabel (lab a) (lab b) (lab x)) q
    walk_kept (step {u} {i} {w} j h) = step_kept i u w (dec i e) j ∙ walk_kept h

    joined : (u v : N) → In u → In v → Dec (lab u ≡ lab a) → Dec (lab v ≡ lab a) → relabel (lab a) (lab b) (lab u) ≡ relabel (lab a) (lab b) (lab v) → Reach K u v
    joined u v l k (yes p) (yes q) h = linked u v l k (p ∙ sym q)
    joined u v l k (yes p) (no q) h =
        Reach-trans (linked u a l in-a p)
        (Reach-trans (Reach-edge e new)
        (linked b v in_b k (sym (relabel-same (lab a) (lab b) (lab u) p) ∙ h ∙ relabel-other (lab a) (lab b) (lab v) q)))
    joined u v l k (no p) (yes q) h =
        Reach-trans (linked u b l in_b (sym (relabel-other (lab a) (lab b) (lab u) p) ∙ h ∙ relabel-same (lab a) (lab b) (lab v) q))
        (Reach-trans (Reach-edge e (ek.turn new)) (linked a v in-a k (sym q)))
    joined u v l k (no p) (no q) h = linked u v l k (sym (relabel-other (lab a) (lab b) (lab u) p) ∙ h ∙ relabel-other (lab a) (lab b) (lab v) q)

    still-flat : ¬ Cyclic K
    still-flat z = go (cut dec e z.round.walk)
      where
        inner : {u v : N} {p : List E} → Fresh e p → Walk K v u p → Walk J v u p
        inner f h = widen narrow (avoid e f h)

        go : Fresh e (z.first ∷ z.rest) ⊎ Split K e z.start (z.first ∷ z.rest) z.start → ⊥
        go (inl f) = L.flat (record { start = z.start; first = z.first; rest = z.rest; round = record { walk = inner f z.round.walk; once = z.round.once } })
        go (inr s) = ends (ek.two new s.passed)
          where
            met : lab s.y ≡ lab s.x
            met =
                reached (low e s.y s.x (ek.turn s.passed)) (inner (split-once s z.round.once).0 s.after)
                ∙ reached (let w = begins z.round.walk in low z.first z.start w.0 w.1) (inner s.fresh s.before)

            ends : ((a ≡ s.x) × (b ≡ s.y)) ⊎ ((a ≡ s.y) × (b ≡ s.x)) → ⊥
            ends (inl (p, q)) = apart (cc met)
            ends (inr (p, q)) = apart (cc met)

    -- an edge between two labels makes them one
    pub labels-grow : Labels In K (λ v. relabel (lab a) (lab b) (lab v))
    labels-grow = record {
      same = λ u v l k. (λ q. Reach→Connected dec ek (joined u v l k (ℕ_discrete (lab u) (lab a)) (ℕ_discrete (lab v) (lab a)) q), λ p. walk_kept p.1.walk);
      flat = still-flat;
    }

-- ── what the labels say of roots ──
module _ {N E : Type 0} {In : N → Type 0} {J : Graph N E} {lab : N → ℕ} (L : Labels In J lab) {R : N → Type 0} (low : (r : N) → R r → In r) where
  pub supplied-is : (v : N) → In v → ((r : N) × R r × Connected J v r) ↔ ((r : N) × R r × (lab v ≡ lab r))
  supplied-is v l = (λ h. (h.0, h.1, (L.same v h.0 l (low h.0 h.1)).1 h.2), λ h. (h.0, h.1, (L.same v h.0 l (low h.0 h.1)).0 h.2))
