-- The weights behind an edge, seen from the root: as the sum over all vertices whose path home passes the edge, and by recursion down the tree.
-- Assumes nothing.
use Rattle.std.specs.Prelude.{ℕ, zero, suc, ◌+◌, ◌≤◌, ◌<◌, ◌≡◌, refl, ◌≢◌, ◌↔◌, ◌⊎◌, Bool, true, false, ◌||◌, length, get_or}
use Rattle.std.proofs.Common.{sym, ◌∙◌, ap, subst, inl, inr, true≢false, arith, length-append}
use mathlib.Core.List.Memᴰ
use mathlib.Core.List.{List, [], ◌∷◌, ◌++◌, Memᴰ}
use Rattle.std.proofs.Math.Option.{Option, none, some}
use Rattle.std.proofs.Math.Seq.{get_or-append_seam, append_snoc}
use Rattle.graphs.specs.Graph.{Graph, Walk, stop, step, Fresh, NoRepeat, Cyclic, Edges, Split, cut, split-once, start-at, end-at, Fresh-tail, NoRepeat-tail}
use Rattle.graphs.specs.Sum.{on, sum_over, Fresh-not, sum-ext, sum-zero, sum-add, sum-swap, sum_one}
use Rattle.graphs.specs.Tree.{Lone, Home, one-home, home-tail, edge-up}

-- some edge of p is e
abbrev pub passes : {E : Type 0} → (E → E → Bool) → E → List E → Bool
passes same e [] = false
passes same e (j ∷ p) = same j e || passes same e p

-- the weights of all vertices listed in vs whose path home passes e
abbrev pub impact_of : {N E : Type 0} → (E → E → Bool) → (N → List E) → List N → (N → ℕ) → E → ℕ
impact_of same route vs c e = sum_over (λ t. on (passes same e (route t)) (c t)) vs

-- over an edge that is not the one we came by, if it leads on
abbrev pub onto : {N : Type 0} → Bool → Option N → (N → ℕ) → ℕ
onto true o f = 0
onto false none f = 0
onto false (some w) f = f w

-- the weights behind v when we come by e: its own, and those behind each other edge that leaves it
abbrev pub behind : {N E : Type 0} → (E → E → Bool) → (E → N → Option N) → List E → (N → ℕ) → ℕ → E → N → ℕ
behind same next es c zero e v = 0
behind same next es c (suc k) e v = c v + sum_over (λ j. onto (same j e) (next j v) (λ w. behind same next es c k j w)) es

-- ── a test of equality ──
module _ {A : Type 0} {same : A → A → Bool} (is : (x y : A) → (same x y ≡ true) ↔ (x ≡ y)) where
  pub same_false : (x y : A) → same x y ≡ false → x ≢ y
  same_false x y e q = true≢false (sym ((is x y).1 q) ∙ e)

  pub same-dec : Discrete A
  same-dec x y = go (same x y) refl
    where
      go : (b : Bool) → same x y ≡ b → Dec (x ≡ y)
      go true e = yes ((is x y).0 e)
      go false e = no (same_false x y e)

  pub same_not : (x y : A) → x ≢ y → same x y ≡ false
  same_not x y d = go (same x y) refl
    where
      go : (b : Bool) → same x y ≡ b → b ≡ false
      go true e = absurd (d ((is x y).0 e))
      go false e = refl

  passes-not : (e : A) (p : List A) → Fresh e p → passes same e p ≡ false
  passes-not e [] f = refl
  passes-not e (j ∷ p) f = rw (same_not j e (λ q. f.0 (sym q))) (passes-not e p f.1)

  passes-yes : (e : A) (a b : List A) → passes same e (a ++ (e ∷ b)) ≡ true
  passes-yes e [] b = rw ((is e e).1 refl)
  passes-yes e (j ∷ a) b = go (same j e) (passes-yes e a b)
    where
      go : (t : Bool) → passes same e (a ++ (e ∷ b)) ≡ true → t || passes same e (a ++ (e ∷ b)) ≡ true
      go true r = refl
      go false r = r

-- ── a list without repeats is no longer than a list that has its elements ──
module _ {A : Type 0} where
  mem-split : {x : A} (l : List A) → Memᴰ x l → (a b : List A) × (l ≡ a ++ (x ∷ b))
  mem-split [] h = absurd (Memᴰ.not-nil h)
  mem-split {x} (y ∷ l) h = go (Memᴰ.cases_cons h) (λ k. mem-split l k)
    where
      go : (x ≡ y) ⊎ Memᴰ x l → (Memᴰ x l → (a b : List A) × (l ≡ a ++ (x ∷ b))) → (a b : List A) × ((y ∷ l) ≡ a ++ (x ∷ b))
      go (inl e) r = ([], l, ap (λ z. z ∷ l) (sym e))
      go (inr k) r = let s = r k in (y ∷ s.0, s.1, ap (λ t. y ∷ t) s.2)

  mem-less : {x y : A} (a b : List A) → y ≢ x → Memᴰ y (a ++ (x ∷ b)) → Memᴰ y (a ++ b)
  mem-less {x} {y} a b d h = go (Memᴰ.append_cases a h)
    where
      later : (y ≡ x) ⊎ Memᴰ y b → Memᴰ y (a ++ b)
      later (inl e) = absurd (d e)
      later (inr k) = Memᴰ.append_right a k

      go : Memᴰ y a ⊎ Memᴰ y (x ∷ b) → Memᴰ y (a ++ b)
      go (inl k) = Memᴰ.append_left b k
      go (inr k) = later (Memᴰ.cases_cons k)

  pub short : (p l : List A) → NoRepeat p → ((x : A) → Memᴰ x p → Memᴰ x l) → length p ≤ length l
  short [] l n h = omega arith
  short (x ∷ p) l n h =
      let s = mem-split l (h x (Memᴰ.head refl)) in
      let r = short p (s.0 ++ s.1) n.1 (λ y m. mem-less s.0 s.1 (Fresh-not x y p n.0 m) (subst (Memᴰ y) s.2 (h y (Memᴰ.tail m)))) in
      omega (arith, r, ap length s.2, length-append s.0 s.1, length-append s.0 (x ∷ s.1))

module _ {N E : Type 0} {J : Graph N E} where
  -- the last edge of a walk
  last_step : {v w : N} {p : List E} (i : E) (u : N) → J i u w → Walk J v w p → (a : List E) × (j : E) × (x : N) × ((i ∷ p) ≡ a ++ (j ∷ [])) × J j x v
  last_step i u j (stop e) = ([], i, u, refl, subst (λ x. J i u x) e j)
  last_step i u j (step {u = u'} {i = i'} j' h) = let r = last_step i' u' j' h in (i ∷ r.0, r.1, r.2, ap (λ l. i ∷ l) r.3, r.4)

  walk-listed : {v u : N} {p es : List E} → ((i : E) (x y : N) → J i x y → Memᴰ i es) → Walk J v u p → (i : E) → Memᴰ i p → Memᴰ i es
  walk-listed h (stop e) i m = absurd (Memᴰ.not-nil m)
  walk-listed {es} h (step {u} {i = i'} {w} {p} j k) i m = go (Memᴰ.cases_cons m) (walk-listed h k i)
    where
      go : (i ≡ i') ⊎ Memᴰ i p → (Memᴰ i p → Memᴰ i es) → Memᴰ i es
      go (inl e) r = h i u w (subst (λ k. J k u w) (sym e) j)
      go (inr m) r = r m

-- where the path p from t and the path r from v stand to an edge j at v: p does not pass it, or r begins with it and p goes on as r, or p passes it and goes on as r
data Meet {N E : Type 0} (J : Graph N E) (j : E) (t : N) (p : List E) (v : N) (r : List E) : Type 0 where
  clear : Fresh j p → Meet J j t p v r
  above : (a b : List E) → r ≡ j ∷ b → p ≡ a ++ r → Walk J v t a → Meet J j t p v r
  below : (a : List E) → p ≡ a ++ (j ∷ r) → Fresh j r → Meet J j t p v r

module _ {N E : Type 0} {J : Graph N E} {R : N → Type 0} (dec : Discrete E) (ed : Edges J) (flat : ¬ Cyclic J) (lone : Lone J R) where
  meets : {t v w : N} {p r : List E} (j : E) → Home J R t p → Home J R v r → J j v w → Meet J j t p v r
  meets {t} {v} {w} {p} {r} j ht hv jv = go (cut dec j ht.trail.walk)
    where
      go : Fresh j p ⊎ Split J j t p ht.root → Meet J j t p v r
      go (inl f) = clear f
      go (inr s) = ends (ed.two jv s.passed)
        where
          o : Fresh j s.post × NoRepeat s.post
          o = split-once s ht.trail.once

          ends : ((v ≡ s.x) × (w ≡ s.y)) ⊎ ((v ≡ s.y) × (w ≡ s.x)) → Meet J j t p v r
          ends (inl x) =
              let k : r ≡ j ∷ s.post = one-home dec ed flat lone hv (record { root = ht.root; is-root = ht.is-root; trail = record { walk = start-at x.0 (step s.passed s.after); once = o } }) in
              above s.pre s.post k (s.whole ∙ ap (λ l. s.pre ++ l) (sym k)) (end-at (sym x.0) s.before)
          ends (inr x) =
              let k : s.post ≡ r = one-home dec ed flat lone (record { root = ht.root; is-root = ht.is-root; trail = record { walk = start-at x.0 s.after; once = o.1 } }) hv in
              below s.pre (s.whole ∙ ap (λ l. s.pre ++ (j ∷ l)) k) (subst (Fresh j) k o.0)

module _ {N E : Type 0} {J : Graph N E} {R : N → Type 0} (ed : Edges J) (flat : ¬ Cyclic J) (lone : Lone J R)
    (same_e : E → E → Bool) (is_e : (i j : E) → (same_e i j ≡ true) ↔ (i ≡ j)) (same_v : N → N → Bool) (is_v : (u v : N) → (same_v u v ≡ true) ↔ (u ≡ v))
    (next : E → N → Option N) (is : (i : E) (u v : N) → (next i u ≡ some v) ↔ J i u v)
    (es : List E) (once-es : NoRepeat es) (in-es : (i : E) (u v : N) → J i u v → Memᴰ i es)
    (vs : List N) (once-vs : NoRepeat vs) (in-vs : (i : E) (u v : N) → J i u v → Memᴰ u vs)
    (route : N → List E) (home : (t : N) → Memᴰ t vs → Home J R t (route t)) (c : N → ℕ) where
  -- one edge of those that leave v is passed, or none
  module _ (t : N) (e : E) (v : N) (q : List E) (lt : Memᴰ t vs) (lv : Memᴰ v vs) (rv : route v ≡ e ∷ q) where
    -- what the edge j adds
    abbrev part : E → ℕ
    part j = onto (same_e j e) (next j v) (λ w. on (passes same_e j (route t)) (c t))

    part_none : (j : E) → ((a : List E) → route t ≡ a ++ (j ∷ route v) → ⊥) → part j ≡ 0
    part_none j h = go (same_e j e) (next j v) refl refl
      where
        go : (b : Bool) (o : Option N) → same_e j e ≡ b → next j v ≡ o → onto b o (λ w. on (passes same_e j (route t)) (c t)) ≡ 0
        go true o p r = refl
        go false none p r = refl
        go false (some w) p r = fin (meets (same-dec is_e) ed flat lone j (home t lt) (home v lv) ((is j v w).0 r))
          where
            fin : Meet J j t (route t) v (route v) → on (passes same_e j (route t)) (c t) ≡ 0
            fin (clear f) = rw (passes-not is_e j (route t) f)
            fin (above a b k g w) = let z : j ≡ e = cc in absurd (same_false is_e j e p z)
            fin (below a g f) = absurd (h a g)

    part-one : (j : E) (w : N) (a : List E) → J j v w → route t ≡ a ++ (j ∷ route v) → part j ≡ c t
    part-one j w a jv h = rw (same_not is_e j e apart, (is j v w).1 jv, ap (passes same_e j) h ∙ passes-yes is_e j a (route v))
      where
        apart : j ≢ e
        apart = (subst (λ l. Fresh j l) rv (NoRepeat-tail a (j ∷ route v) (subst NoRepeat h (home t lt).trail.once)).0).0

    -- at one place of one list
    same-edge : (i j : E) (a b : List E) → route t ≡ a ++ (i ∷ route v) → route t ≡ b ++ (j ∷ route v) → i ≡ j
    same-edge i j a b g h = sym (get_or-append_seam a i (route v) i) ∙ ap (λ l. get_or l (length a) i) (sym g ∙ h) ∙ ap (λ k. get_or (b ++ (j ∷ route v)) k i) lens ∙ get_or-append_seam b j (route v) i
      where
        lens : length a ≡ length b
        lens = omega (arith, ap length (sym g ∙ h), length-append a (i ∷ route v), length-append b (j ∷ route v))

    split-weight : on (passes same_e e (route t)) (c t) ≡ on (same_v t v) (c t) + sum_over part es
    split-weight = go (meets (same-dec is_e) ed flat lone e (home t lt) (home v lv) (home-tail (subst (Home J R v) rv (home v lv))).1)
      where
        longer : (b : List E) (j : E) → route t ≡ route v → route t ≡ b ++ (j ∷ route v) → ⊥
        longer b j h g = omega (arith, ap length (sym h ∙ g), length-append b (j ∷ route v))

        hit : (a : List E) → route t ≡ a ++ route v → on (passes same_e e (route t)) (c t) ≡ c t
        hit a h = rw (ap (passes same_e e) (h ∙ ap (λ l. a ++ l) rv) ∙ passes-yes is_e e a q)

        missed : t ≢ v → on (same_v t v) (c t) ≡ 0
        missed d = rw (same_not is_v t v d)

        walked : (a : List E) → route t ≡ a ++ route v → Walk J v t a → on (passes same_e e (route t)) (c t) ≡ on (same_v t v) (c t) + sum_over part es
        walked a h (stop d) =
            let r : on (same_v t v) (c t) ≡ c t = rw ((is_v t v).1 d) in
            omega (arith, hit [] h, sum-zero part es (λ j _. part_none j (λ b g. longer b j h g)))
        walked a h (step {i} {p} j k) =
            let s = last_step i t j k in
            let g : route t ≡ s.0 ++ (s.1 ∷ route v) = h ∙ ap (λ l. l ++ route v) s.3 ∙ append_snoc s.0 s.1 (route v) in
            let back = ed.turn s.4 in
            omega (
              arith,
              hit (i ∷ p) h,
              missed (λ d. longer s.0 s.1 (ap route d) g),
              sum_one part es s.1 (c t) once-es (in-es s.1 v s.2 back) (part-one s.1 s.2 s.0 back g) (λ i _ d. part_none i (λ b f. d (same-edge i s.1 b s.0 f g))),
            )

        go : Meet J e t (route t) v (route v) → on (passes same_e e (route t)) (c t) ≡ on (same_v t v) (c t) + sum_over part es
        go (clear f) =
            let l : on (passes same_e e (route t)) (c t) ≡ 0 = rw (passes-not is_e e (route t) f) in
            omega (
              arith,
              missed (λ d. (subst (Fresh e) (ap route d ∙ rv) f).0 refl),
              sum-zero part es (λ j _. part_none j (λ a h. (subst (Fresh e) rv (Fresh-tail e a (j ∷ route v) (subst (Fresh e) h f)).1).0 refl)),
            )
        go (above a b _ g w) = walked a g w
        go (below a g f) = absurd ((subst (Fresh e) rv f).0 refl)

  -- the path home of what hangs below v
  child-route : (e : E) (v : N) (j : E) (w : N) (q : List E) → Memᴰ v vs → route v ≡ e ∷ q → j ≢ e → J j v w → route w ≡ j ∷ route v
  child-route e v j w q lv rv d jv = go (edge-up (same-dec is_e) ed flat lone (home v lv) (home w (in-vs j w v (ed.turn jv))) jv)
    where
      go : (route v ≡ j ∷ route w) ⊎ (route w ≡ j ∷ route v) → route w ≡ j ∷ route v
      go (inl h) = let z : j ≡ e = cc in absurd (d z)
      go (inr h) = h

  pub behind-is : (k : ℕ) (e : E) (v : N) (q : List E) → Memᴰ v vs → route v ≡ e ∷ q → length es < length (route v) + k → impact_of same_e route vs c e ≡ behind same_e next es c k e v
  behind-is zero e v q lv rv h = absurd (omega (arith, short (route v) es (home v lv).trail.once (walk-listed in-es (home v lv).trail.walk)))
  behind-is (suc k) e v q lv rv h =
      sum-ext _ _ vs (λ t lt. split-weight t e v q lt lv rv)
      ∙ sum-add (λ t. on (same_v t v) (c t)) (λ t. sum_over (λ j. onto (same_e j e) (next j v) (λ w. on (passes same_e j (route t)) (c t))) es) vs
      ∙ omega (
        arith,
        own,
        sum-swap (λ t j. onto (same_e j e) (next j v) (λ w. on (passes same_e j (route t)) (c t))) vs es,
        sum-ext _ _ es (λ j _. child j (λ w d jv. let r = child-route e v j w q lv rv d jv in behind-is k j w (route v) (in-vs j w v (ed.turn jv)) r (omega (arith, ap length r)))),
      )
    where
      own : sum_over (λ t. on (same_v t v) (c t)) vs ≡ c v
      own = sum_one (λ t. on (same_v t v) (c t)) vs v (c v) once-vs lv (rw ((is_v v v).1 refl)) (λ i _ d. rw (same_not is_v i v d))

      child : (j : E) → ((w : N) → j ≢ e → J j v w → impact_of same_e route vs c j ≡ behind same_e next es c k j w) →
          sum_over (λ t. onto (same_e j e) (next j v) (λ w. on (passes same_e j (route t)) (c t))) vs ≡ onto (same_e j e) (next j v) (λ w. behind same_e next es c k j w)
      child j ih = go (same_e j e) (next j v) refl refl
        where
          go : (b : Bool) (o : Option N) → same_e j e ≡ b → next j v ≡ o → sum_over (λ t. onto b o (λ w. on (passes same_e j (route t)) (c t))) vs ≡ onto b o (λ w. behind same_e next es c k j w)
          go true o p r = sum-zero (λ t. 0) vs (λ _ _. refl)
          go false none p r = sum-zero (λ t. 0) vs (λ _ _. refl)
          go false (some w) p r = ih w (same_false is_e j e p) ((is j v w).0 r)
