-- The queue of lines as it is noted, from the HV stations outwards.
use Prim.Native.Nat.{ℕ, zero, suc, ◌+◌, ◌≤◌, ◌<◌}
use mathlib.Core.Path.{◌≡◌, refl, sym, ap, ◌∙◌, subst}
use mathlib.Core.Bool.{true, false, true≢false}
use mathlib.Core.Logic.{◌⊎◌, inl, inr, ⊎_elim}
use mathlib.Core.List.Memᴰ
use mathlib.Core.List.{List, [], ◌∷◌, ◌++◌, map, Memᴰ}
use native.Mathlib.Decide.{ℕ_discrete}
use native.Mathlib.Numerals.{add-one}
use native.Mathlib.Omega.{arith}
use lib.Dec.{eqb}
use lib.ListN.{length, get_or, take, length-append, length-map}
use lib.Seq.{take-suc, take-append-le}
use Rattle.std.specs.Prelude.{Option, None, Some}
use Rattle.model.specs.Network.{Network}
use Rattle.model.specs.Paths.{station, line, End, is_open, station_at, closed_ends, is_hv, at_hv}
use Rattle.model.specs.Outage.{path_to_hv}
use Rattle.graphs.specs.Graph.{NoRepeat}
use Rattle.graphs.specs.Sum.{Fresh-not}
use Rattle.theory.specs.Reading.{Read}
use Rattle.theory.specs.Ends.{keep-in, closed_in, closed-end}
use Rattle.theory.specs.Radial.{Rules, In, root_in, station-in}
use Rattle.theory.specs.Behind.{far}
use Rattle.network.specs.There.{LineThere}
use Rattle.network.specs.Found.{found, found-is}
use Rattle.tree.specs.Linked.{LineHeld, ends_at}
use Rattle.tree.specs.Outwards.{near_end}
use Rattle.tree.specs.Held.{noted_near, lines_in, HoldsEnds, HoldsTree}
use Rattle.tree.specs.Queue.{leaving, Room, Added, Laid, Told, Queue, HVBelow, Reached, Whole}
use Rattle.tree.specs.Feeding.{FarEnd}
use Rattle.tree.specs.declared.Supply.{Supply}
use Rattle.tree.specs.declared.Tree.{Tree}
use Rattle.tree.proofs.Fitting.{read_fits, line_held}
use Rattle.tree.proofs.Near.{near-end, hv-path, far-first}
use Rattle.tree.proofs.Leaving.{Leaves, leaves-hv, leaves-far}
use Rattle.tree.proofs.Adding.{fed-length, Placed, told-after}
use Rattle.tree.proofs.Laying.{place_of, at_place, laid-count, laid_same, laid_more, laid-all, laid-full}

-- an element of a list without repeats is none of those before it
once-place : (xs : List ℕ) (i : ℕ) → i < length xs → NoRepeat xs → Memᴰ (get_or xs i 0) (take i xs) → ⊥
once-place [] i h n m = absurd (omega arith)
once-place (x ∷ xs) zero h n m = Memᴰ.not-nil m
once-place (x ∷ xs) (suc i) h n m =
    ⊎_elim (λ e. Fresh-not x (get_or xs i 0) xs n.0 (at_place xs i (omega arith)) e) (λ k. once-place xs i (omega arith) n.1 k) (Memᴰ.cases_cons m)

-- the elements before one are elements
in-take : {l : ℕ} (xs : List ℕ) (i : ℕ) → Memᴰ l (take i xs) → Memᴰ l xs
in-take [] zero m = m
in-take [] (suc i) m = m
in-take (x ∷ xs) zero m = absurd (Memᴰ.not-nil m)
in-take (x ∷ xs) (suc i) m = ⊎_elim (λ e. Memᴰ.head e) (λ k. Memᴰ.tail (in-take xs i k)) (Memᴰ.cases_cons m)

module _ (N : Network) (d : Read N) (r : Rules N) where
  pub queue-start : (y : Supply) → y.order.items ≡ [] → length y.lines ≡ 768 → Queue N (HVBelow N 1) y
  unfolding at_hv
  queue-start y e a = record {
    laid = subst (Laid N (HVBelow N 1)) (sym e) (record {
      inside = λ l m. absurd (Memᴰ.not-nil m);
      near = λ l m. absurd (Memᴰ.not-nil m);
      all = λ l i k. absurd (omega (arith, k.1, (root_in N d (station (station_at N (near_end N l))) k.0).0));
      once = tt;
      after = λ i h. absurd (omega arith);
    });
    told = subst (Told N y.lines) (sym e) (λ l m. absurd (Memᴰ.not-nil m));
    feeds = a;
  }

  module _ {Done : ℕ → Type 0} (y : Supply) (q : Queue N Done y) where
    -- the same stations
    queue-same : {Done' : ℕ → Type 0} → ((t : ℕ) → Done t → Done' t) → ((t : ℕ) → Done' t → Done t) → Queue N Done' y
    queue-same f g = record { laid = laid_same N f g q.laid; told = q.told; feeds = q.feeds }

    -- one station more
    module _ (s fed : ℕ) (o : Option ℕ) (p : o ≡ found fed) (v : Leaves N s (leaving o (ends_at N s)) fed) (new : Done s → ⊥) (known : 1 ≤ fed → Memᴰ fed y.order.items) where
      -- there is room for its lines
      room : length y.order.items + length (leaving o (ends_at N s)) ≤ 768
      room =
          let t = laid-count N (laid_more N d r {Done' = λ t. Done t ⊎ (t ≡ s)} s (leaving o (ends_at N s)) fed q.laid v new known (λ t x. inl x) (inr refl) (λ t x. x)) in
          omega (arith, t, length-append y.order.items (map (λ e. e.line) (leaving o (ends_at N s))), length-map (leaving o (ends_at N s)) (λ e. e.line), (read_fits N d).lines)

      held : (e : End) → Memᴰ e (ends_at N s) → LineHeld e.line
      held e m = let c = closed-end N e (closed_in N e (keep-in (λ e. eqb (station_at N e) s) e (closed_ends N) m).0) in line_held N d (record { low = c.0; high = c.1 })

      placed : (e : End) → Memᴰ e (leaving o (ends_at N s)) → Placed N fed e (length y.lines)
      placed e m =
          let i = v.inside e m in
          let z = v.sides e m in
          record { low = i.0; high = omega (arith, i.1, q.feeds, (read_fits N d).lines); first = z.0; second = z.1; near = v.near e m; feeds = v.feeds e m }

      queue-room : (ends : List End) → ends ≡ ends_at N s → Room y ends o
      queue-room ends e = subst (λ es. Room y es o) (sym e) (record { lines = held; fits = room })

      module _ (y' : Supply) (a : Added (leaving o (ends_at N s)) o y y') where
        -- the lines before stay where they are
        queue-kept : (k : ℕ) → k ≤ length y.order.items → take k y'.order.items ≡ take k y.order.items
        queue-kept k h = ap (take k) a.orders ∙ take-append-le k y.order.items (map (λ e. e.line) (leaving o (ends_at N s))) h

        queue-longer : length y.order.items ≤ length y'.order.items
        queue-longer = omega (arith, ap length a.orders, length-append y.order.items (map (λ e. e.line) (leaving o (ends_at N s))))

        queue-add : {Done' : ℕ → Type 0} → ((t : ℕ) → Done t → Done' t) → Done' s → ((t : ℕ) → Done' t → Done t ⊎ (t ≡ s)) → Queue N Done' y'
        queue-add {Done'} f here g = record {
          laid = subst (Laid N Done') (sym a.orders) (laid_more N d r s (leaving o (ends_at N s)) fed q.laid v new known f here g);
          told = subst (Told N y'.lines) (sym a.orders)
              (rw (a.feeds, p)
              (told-after N fed y.lines y.order.items (leaving (found fed) (ends_at N s)) (λ l m. (q.laid.inside l m).0)
              (subst (λ o. (e : End) → Memᴰ e (leaving o (ends_at N s)) → Placed N fed e (length y.lines)) p placed) q.told));
          feeds = ap length a.feeds ∙ fed-length o y.lines (leaving o (ends_at N s)) ∙ q.feeds;
        }

  -- ── the HV stations ──
  module _ (s : ℕ) (y : Supply) (q : Queue N (HVBelow N s) y) where
    pub hv-skip : is_hv N s ≡ false → Queue N (HVBelow N (s + 1)) y
    hv-skip h = queue-same y q (λ t x. (x.0, omega (arith, x.1))) (λ t x. (x.0, go t x (ℕ_discrete t s)))
      where
        go : (t : ℕ) → HVBelow N (s + 1) t → Dec (t ≡ s) → t < s
        go t x (yes e) = absurd (true≢false (sym x.0 ∙ ap (is_hv N) e ∙ h))
        go t x (no e) = omega (arith, x.1)

    module _ (h : is_hv N s ≡ true) (ends : List End) (e : ends ≡ ends_at N s) where
      new : HVBelow N s s → ⊥
      new x = omega (arith, x.1)

      pub hv-room : Room y ends None
      hv-room = queue-room y q s 0 None refl (leaves-hv N d r s h) new (λ x. absurd (omega arith)) ends e

      pub hv-add : (y' : Supply) → Added (leaving None ends) None y y' → Queue N (HVBelow N (s + 1)) y'
      hv-add y' a =
          queue-add y q s 0 None refl (leaves-hv N d r s h) new (λ x. absurd (omega arith)) y' (subst (λ es. Added (leaving None es) None y y') e a)
          (λ t x. (x.0, omega (arith, x.1))) (h, omega arith) (λ t x. go t x (ℕ_discrete t s))
        where
          go : (t : ℕ) → HVBelow N (s + 1) t → Dec (t ≡ s) → HVBelow N s t ⊎ (t ≡ s)
          go t x (yes e) = inr e
          go t x (no e) = inl (x.0, omega (arith, x.1))

    -- all HV stations
    pub hv-end : length N.stations < s → Queue N (Reached N []) y
    unfolding at_hv
    hv-end h = queue-same y q (λ t x. inl x.0) (λ t x. ⊎_elim (λ z. (z, omega (arith, (root_in N d (station t) z).1))) (λ z. absurd (Memᴰ.not-nil z.1)) x)

  -- ── the far station of a line ──
  module _ (i : ℕ) (y : Supply) (q : Queue N (Reached N (take i y.order.items)) y) (h : i < length y.order.items) (l : ℕ) (at : l ≡ get_or y.order.items i 0) where
    -- the line at the place is one of the queue
    stands : Memᴰ l y.order.items
    stands = Memᴰ.cast at (at_place y.order.items i h)

    line-in : In N (line l)
    line-in = q.laid.inside l stands

    pub line-there : LineThere N l
    line-there = record { low = line-in.0; high = line-in.1 }

    far-noted : (f : End) → f ≡ far (noted_near y.lines l) → f ≡ far (near_end N l)
    far-noted f e = e ∙ ap far (q.told l stands).0

    pub far-line : (f : End) → f ≡ far (noted_near y.lines l) → LineThere N f.line
    far-line f e = subst (LineThere N) (sym (ap (λ (x : End). x.line) e)) line-there

    one_more : take (i + 1) y.order.items ≡ take i y.order.items ++ (l ∷ [])
    one_more = ap (λ k. take k y.order.items) (add-one i) ∙ take-suc y.order.items i 0 h ∙ ap (λ n. take i y.order.items ++ (n ∷ [])) (sym at)

    reached-less : (t : ℕ) → Reached N (take i y.order.items) t → Reached N (take (i + 1) y.order.items) t
    reached-less t x = ⊎_elim (λ z. inl z) (λ z. inr (z.0, rw one_more (Memᴰ.append_left _ z.1), z.2, z.3)) x

    reached-more : (t : ℕ) → Reached N (take (i + 1) y.order.items) t → Reached N (take i y.order.items) t ⊎ ((is_open N (far (near_end N l)) ≡ false) × (station_at N (far (near_end N l)) ≡ t))
    reached-more t x = ⊎_elim (λ z. inl (inl z)) (λ z. go z.0 z.2 z.3 (Memᴰ.append_cases (take i y.order.items) (subst (Memᴰ z.0) one_more z.1))) x
      where
        go : (k : ℕ) → is_open N (far (near_end N k)) ≡ false → station_at N (far (near_end N k)) ≡ t → Memᴰ k (take i y.order.items) ⊎ Memᴰ k (l ∷ [])
            → Reached N (take i y.order.items) t ⊎ ((is_open N (far (near_end N l)) ≡ false) × (station_at N (far (near_end N l)) ≡ t))
        go k c p (inl m) = inl (inr (k, m, c, p))
        go k c p (inr m) = let e = Memᴰ.eq_of_singleton m in inr (ap (λ k. is_open N (far (near_end N k))) (sym e) ∙ c, ap (λ k. station_at N (far (near_end N k))) (sym e) ∙ p)

    pub far-skip : (f : End) → f ≡ far (noted_near y.lines l) → is_open N f ≡ true → Queue N (Reached N (take (i + 1) y.order.items)) y
    far-skip f e o = queue-same y q reached-less (λ t x. ⊎_elim (λ z. z) (λ z. absurd (true≢false (sym o ∙ ap (is_open N) (far-noted f e) ∙ z.0))) (reached-more t x))

    module _ (f : End) (e : f ≡ far (noted_near y.lines l)) (c : is_open N f ≡ false) where
      is-far : f ≡ far (near_end N l)
      is-far = far-noted f e

      first : FarEnd N (station_at N f) f
      first = rw is-far (far-first N d r l line-in (ap (is_open N) (sym is-far) ∙ c))

      own : f.line ≡ l
      own = ap (λ (x : End). x.line) is-far ∙ (near-end N d r l line-in).own

      -- no other line leads to it
      new-far : Reached N (take i y.order.items) (station_at N f) → ⊥
      new-far x = ⊎_elim (λ z. hv z (hv-path N d r (station_at N f) z) first.path) (λ z. other z.0 z.1 z.2 z.3) x
        where
          hv : is_hv N (station_at N f) ≡ true → path_to_hv N (station (station_at N f)) ≡ [] → path_to_hv N (station (station_at N f)) ≡ f ∷ path_to_hv N (line f.line) → ⊥
          hv z a b = let z : ◌≡◌ {A = ℕ} 0 1 = cc in omega arith

          other : (k : ℕ) → Memᴰ k (take i y.order.items) → is_open N (far (near_end N k)) ≡ false → station_at N (far (near_end N k)) ≡ station_at N f → ⊥
          other k m o p =
              let b = q.laid.inside k (in-take y.order.items i m) in
              let g = far-first N d r k b o in
              let z = chains (far (near_end N k)) (sym g.path ∙ ap (λ t. path_to_hv N (station t)) p ∙ first.path) in
              let u : k ≡ l = sym (near-end N d r k b).own ∙ ap (λ (x : End). x.line) z ∙ own in
              once-place y.order.items i h q.laid.once (Memᴰ.cast (sym (u ∙ at)) m)
            where
              chains : (g : End) {ds fs : List End} → g ∷ ds ≡ f ∷ fs → g ≡ f
              chains g x = cc

      -- its lines follow
      leaves : Leaves N (station_at N f) (leaving (Some l) (ends_at N (station_at N f))) l
      leaves = subst (λ n. Leaves N (station_at N f) (leaving (Some n) (ends_at N (station_at N f))) n) own (leaves-far N d r (station_at N f) f first)

      pub far-station : In N (station (station_at N f))
      far-station = let x = closed-end N f c in station-in N d f x.0 x.1

      module _ (ends : List End) (z : ends ≡ ends_at N (station_at N f)) where
        pub far-room : Room y ends (Some l)
        far-room = queue-room y q (station_at N f) l (Some l) (found-is l line-in.0) leaves new-far (λ x. stands) ends z

        pub far-add : (y' : Supply) → Added (leaving (Some l) ends) (Some l) y y' → Queue N (Reached N (take (i + 1) y'.order.items)) y' × (i < length y'.order.items)
        far-add y' a = (
          subst (λ ls. Queue N (Reached N ls) y') (sym (queue-kept y q (station_at N f) l (Some l) (found-is l line-in.0) leaves new-far (λ x. stands) y' added (i + 1) (omega arith)))
              (queue-add y q (station_at N f) l (Some l) (found-is l line-in.0) leaves new-far (λ x. stands) y' added reached-less
              (inr (l, rw one_more (Memᴰ.append_right (take i y.order.items) (Memᴰ.head refl)), ap (is_open N) (sym is-far) ∙ c, ap (station_at N) (sym is-far)))
              (λ t x. ⊎_elim (λ u. inl u) (λ u. inr (sym u.1 ∙ ap (station_at N) (sym is-far))) (reached-more t x))),
          omega (arith, queue-longer y q (station_at N f) l (Some l) (found-is l line-in.0) leaves new-far (λ x. stands) y' added),
        )
          where
            added : Added (leaving (Some l) (ends_at N (station_at N f))) (Some l) y y'
            added = subst (λ es. Added (leaving (Some l) es) (Some l) y y') z a

  module _ (t : Tree) (q : Whole N t.supply) where
    pub grown-count : length (lines_in t) ≡ length N.lines
    grown-count = laid-full N d r q.laid

    all : (l : ℕ) → LineThere N l → Memᴰ l (lines_in t)
    all l i = laid-all N d r q.laid l (i.low, i.high)

    pub grown : HoldsEnds N t → HoldsTree N t
    grown k = record {
      linked = k;
      outwards = record {
        feeders = record { nears = λ l i. (q.told l (all l i)).0; feeds = λ l i. (q.told l (all l i)).1 };
        listed = λ l i. let x = place_of (all l i) in (x.0, omega (arith, x.1, grown-count), x.2);
        inside = λ j h. let x = q.laid.inside (get_or (lines_in t) j 0) (at_place (lines_in t) j (omega (arith, grown-count))) in record { low = x.0; high = x.1 };
        after = λ j h a. q.laid.after j (omega (arith, grown-count)) a;
      };
    }
