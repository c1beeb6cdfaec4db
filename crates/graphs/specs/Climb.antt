-- A table that has for each vertex the edge that leads up and the vertex above: to follow it is the path home.
-- The level of a vertex is 0 while it is unknown, 1 at a root, and one more than that of the vertex above.
-- Assumes nothing.
use Rattle.std.specs.Prelude.{ℕ, zero, suc, ◌≤◌, ◌<◌, ◌≡◌, refl, ◌≢◌, ◌⊎◌, List, [], ◌∷◌}
use Rattle.std.proofs.Common.{ap, subst, inl, inr, arith}
use Rattle.graphs.specs.Graph.{Graph, stop, step, Fresh, Edges}
use Rattle.graphs.specs.Tree.{Home}

-- the table is right at the vertices that are In
pub record Table {N E : Type 0} (J : Graph N E) (R In : N → Type 0) (level : N → ℕ) (edge : N → E) (above : N → N) : Type 0 where
  pub top : (v : N) → In v → level v ≡ 1 → R v
  pub link : (v : N) (k : ℕ) → In v → level v ≡ suc (suc k) → In (above v) × J (edge v) v (above v) × (level (above v) ≡ suc k)

-- the edges of the k levels up from v
abbrev pub climb : {N E : Type 0} → (N → E) → (N → N) → ℕ → N → List E
climb edge above zero v = []
climb edge above (suc k) v = edge v ∷ climb edge above k (above v)

module _ {N E : Type 0} {J : Graph N E} {R In : N → Type 0} {level : N → ℕ} {edge : N → E} {above : N → N} (ed : Edges J) (T : Table J R In level edge above) where
  apart : (x w : N) (k h : ℕ) → In x → In w → level w ≡ suc (suc k) → level x ≡ suc (suc h) → k < h → edge x ≢ edge w
  apart x w k h lx lw e f d q = go (ed.two (T.link w k lw e).1 (subst (λ i. J i x (above x)) q (T.link x h lx f).1))
    where
      go : ((w ≡ x) × (above w ≡ above x)) ⊎ ((w ≡ above x) × (above w ≡ x)) → ⊥
      go (inl p) = omega (arith, ap level p.0)
      go (inr p) = omega (arith, ap level p.1, (T.link w k lw e).2)

  climb-fresh : (k : ℕ) (x w : N) (h : ℕ) → In x → In w → level w ≡ suc k → level x ≡ suc (suc h) → k ≤ h → Fresh (edge x) (climb edge above k w)
  climb-fresh zero x w h lx lw e f d = tt
  climb-fresh (suc k) x w h lx lw e f d =
      let s = T.link w k lw e in
      (apart x w k h lx lw e f (omega arith), climb-fresh k x (above w) h lx s.0 s.2 f (omega arith))

  -- the table's path is the path home
  pub climb-home : (k : ℕ) (v : N) → In v → level v ≡ suc k → Home J R v (climb edge above k v)
  climb-home zero v l e = record { root = v; is-root = T.top v l e; trail = record { walk = stop refl; once = tt } }
  climb-home (suc k) v l e =
      let s = T.link v k l e in
      let h = climb-home k (above v) s.0 s.2 in
      record {
        root = h.root;
        is-root = h.is-root;
        trail = record { walk = step s.1 h.trail.walk; once = (climb-fresh k v (above v) k l s.0 s.2 e (omega arith), h.trail.once) };
      }
