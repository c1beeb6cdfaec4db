-- Paths to the HV station in a network that is read and keeps the rules: what lies behind an end, and how far the paths go.
use Prim.Native.Nat.{ℕ, zero, suc, ◌+◌, ◌-◌, ◌≤◌, ◌<◌}
use mathlib.Core.Path.{◌≡◌, refl, sym, ap, ◌∙◌, subst}
use mathlib.Core.Bool.{true, false}
use mathlib.Core.Logic.{◌≢◌, ◌⊎◌, inl, inr, ⊎_elim}
use mathlib.Core.List.Memᴰ
use mathlib.Core.List.{List, [], ◌∷◌, Memᴰ}
use native.Mathlib.Decide.{ℕ_discrete}
use native.Mathlib.Omega.{arith}
use lib.Dec.{eqb}
use lib.ListN.{length}
use borrow.Author.Tests.{eq-eqb, ne_eqb, eqb-false}
use Rattle.std.specs.Prelude.{Option, None, Some}
use Rattle.model.specs.Network.{Network}
use Rattle.model.specs.Paths.{station, line, End, same_end, is_open, station_at, is_hv, at_hv, closed_ends}
use Rattle.model.specs.Outage.{path_to_hv, customers_behind}
use Rattle.graphs.specs.Graph.{stop}
use Rattle.graphs.specs.Behind.{same_not}
use Rattle.theory.specs.Reading.{Read}
use Rattle.theory.specs.Ends.{same_end-is, end-discrete, closed-end}
use Rattle.theory.specs.Radial.{Rules, station-in, root_in}
use Rattle.theory.specs.Forest.{path-only, end-first, end-first-once}
use Rattle.theory.specs.Behind.{far, far-not, other-end, ends-alike}
use Rattle.tree.specs.Outwards.{first_end, near_end}
use Rattle.tree.specs.Feeding.{Near}
use Rattle.network.specs.There.{LineThere}
use Rattle.tree.proofs.Near.{near-is, near-end, near-station, hv-or-fed, far-first}
use Rattle.tree.proofs.Lengths.{path-short}
use Rattle.outage.specs.Below.{came_end, Leaves, AtLine, AtStation}

-- the end by which a line's near station is fed
pub record Above (N : Network) (l : ℕ) (f : End) : Type 0 where
  pub closed : is_open N f ≡ false
  pub at : station_at N f ≡ station_at N (near_end N l)
  pub other : f ≡ far (near_end N f.line)
  pub path : path_to_hv N (line l) ≡ near_end N l ∷ f ∷ path_to_hv N (line f.line)

module _ (N : Network) (d : Read N) (r : Rules N) where
  -- how a line's path goes on after its near end
  line-above : (l : ℕ) → 1 ≤ l → l ≤ length N.lines
      → ((path_to_hv N (line l) ≡ near_end N l ∷ []) × (is_hv N (station_at N (near_end N l)) ≡ true)) ⊎ ((f : End) × Above N l f)
  line-above l a b = ⊎_elim
      (λ x. inl (n.path ∙ ap (λ es. near_end N l ∷ es) x.1, x.0))
      (λ x. let t = x.1 in inr (x.0, record { closed = t.closed; at = t.own; other = t.is-far; path = n.path ∙ ap (λ es. near_end N l ∷ es) t.path }))
      (hv-or-fed N d r (station_at N (near_end N l)) (near-station N d r l (a, b)))
    where
      n : Near N l (near_end N l)
      n = near-end N d r l (a, b)

  -- behind a closed end are the customers that are behind its line's near end
  pub behind-line : (e : End) → is_open N e ≡ false → customers_behind N e ≡ customers_behind N (near_end N e.line)
  behind-line e c = ⊎_elim first second (end-first N d r e c)
    where
      n : Near N e.line (near_end N e.line)
      n = let x = closed-end N e c in near-end N d r e.line (x.0, x.1)

      first : path_to_hv N (line e.line) ≡ e ∷ path_to_hv N (station (station_at N e)) → customers_behind N e ≡ customers_behind N (near_end N e.line)
      first p = ap (customers_behind N) (sym (near-is N e.line e _ p))

      second : path_to_hv N (station (station_at N e)) ≡ e ∷ path_to_hv N (line e.line) → customers_behind N e ≡ customers_behind N (near_end N e.line)
      second p =
          let o : e ≡ far (near_end N e.line) = other-end N e (near_end N e.line) c n.closed (sym n.own) (λ q. end-first-once N d r e (n.path ∙ ap (λ d. d ∷ path_to_hv N (station (station_at N d))) (sym q)) p) in
          ap (customers_behind N) o
          ∙ sym (ends-alike N d r (near_end N e.line) n.closed (ap (is_open N) (sym o) ∙ c) (ap (λ k. path_to_hv N (line k)) n.own ∙ n.path))

  -- ── what lies below an end ──
  module _ (e : End) (n : Near N e.line e) where
    -- a path goes on beyond the far end of a line, by an end that leaves the far station
    abbrev Beyond : List End → Type 0
    Beyond p = (is_open N (far e) ≡ false) × (g : End) × Memᴰ g p × Leaves N (Some e.line) (station_at N (far e)) g

    module _ (l : ℕ) (a : 1 ≤ l) (b : l ≤ length N.lines) (w : l ≢ e.line) where
      -- a line's near end is not that of another line
      not_first : e ≢ near_end N l
      not_first p = w (sym (near-end N d r l (a, b)).own ∙ ap (λ (x : End). x.line) (sym p))

      module _ (f : End) (t : Above N l f) where
        above-far : f.line ≡ e.line → f ≡ far e
        above-far p = t.other ∙ ap (λ x. far x) (ap (near_end N) p ∙ near-is N e.line e _ n.path)

        fed_by : f.line ≡ e.line → Beyond (path_to_hv N (line l))
        fed_by p = (
          ap (is_open N) (sym (above-far p)) ∙ t.closed,
          near_end N l,
          subst (Memᴰ (near_end N l)) (sym t.path) (Memᴰ.head refl),
          record { closed = (near-end N d r l (a, b)).closed; at = sym t.at ∙ ap (station_at N) (above-far p); other = ne_eqb (near_end N l).line e.line (λ x. w (sym (near-end N d r l (a, b)).own ∙ x)) },
        )

        -- it is on the path of the line that feeds this one
        on-above : Memᴰ e (path_to_hv N (line l)) → Memᴰ e (path_to_hv N (line f.line))
        on-above m = ⊎_elim (λ x. absurd (not_first x))
            (λ x. ⊎_elim (λ y. absurd (far-not e (sym (y ∙ above-far (ap (λ (x : End). x.line) (sym y)))))) (λ y. y) (Memᴰ.cases_cons x))
            (Memᴰ.cases_cons (subst (Memᴰ e) t.path m))

    -- the near end of a line is on another line's path only beyond its far station
    beyond-within : (k l : ℕ) → 1 ≤ l → l ≤ length N.lines → length (path_to_hv N (line l)) ≤ k → l ≢ e.line → Memᴰ e (path_to_hv N (line l)) → Beyond (path_to_hv N (line l))
    beyond-within zero l a b h w m = absurd (omega (arith, h, ap length (near-end N d r l (a, b)).path))
    beyond-within (suc k) l a b h w m = go (line-above l a b) (λ j x y z u v. beyond-within k j x y z u v)
      where
        go : ((path_to_hv N (line l) ≡ near_end N l ∷ []) × (is_hv N (station_at N (near_end N l)) ≡ true)) ⊎ ((f : End) × Above N l f)
            → ((j : ℕ) → 1 ≤ j → j ≤ length N.lines → length (path_to_hv N (line j)) ≤ k → j ≢ e.line → Memᴰ e (path_to_hv N (line j)) → Beyond (path_to_hv N (line j))) → Beyond (path_to_hv N (line l))
        go (inl (p, t)) ih = ⊎_elim (λ x. absurd (not_first l a b w x)) (λ x. absurd (Memᴰ.not-nil x)) (Memᴰ.cases_cons (subst (Memᴰ e) p m))
        go (inr (f, t)) ih = at (ℕ_discrete f.line e.line)
          where
            at : Dec (f.line ≡ e.line) → Beyond (path_to_hv N (line l))
            at (yes p) = fed_by l a b w f t p
            at (no p) =
                let x = closed-end N f t.closed in
                let y = ih f.line x.0 x.1 (omega (arith, ap length t.path)) p (on-above l a b w f t m) in
                (y.0, y.1, subst (Memᴰ y.1) (sym t.path) (Memᴰ.tail (Memᴰ.tail y.2)), y.3)

    pub beyond : (l : ℕ) → 1 ≤ l → l ≤ length N.lines → l ≢ e.line → Memᴰ e (path_to_hv N (line l)) → Beyond (path_to_hv N (line l))
    beyond l a b w m = beyond-within (length (path_to_hv N (line l))) l a b (omega arith) w m

  -- a line's path has an end at an HV station
  hv-end-within : (k l : ℕ) → 1 ≤ l → l ≤ length N.lines → length (path_to_hv N (line l)) ≤ k
      → (g : End) × Memᴰ g (path_to_hv N (line l)) × (is_open N g ≡ false) × (is_hv N (station_at N g) ≡ true)
  hv-end-within zero l a b h = absurd (omega (arith, h, ap length (near-end N d r l (a, b)).path))
  hv-end-within (suc k) l a b h = go (line-above l a b) (λ j x y z. hv-end-within k j x y z)
    where
      go : ((path_to_hv N (line l) ≡ near_end N l ∷ []) × (is_hv N (station_at N (near_end N l)) ≡ true)) ⊎ ((f : End) × Above N l f)
          → ((j : ℕ) → 1 ≤ j → j ≤ length N.lines → length (path_to_hv N (line j)) ≤ k → (g : End) × Memᴰ g (path_to_hv N (line j)) × (is_open N g ≡ false) × (is_hv N (station_at N g) ≡ true))
          → (g : End) × Memᴰ g (path_to_hv N (line l)) × (is_open N g ≡ false) × (is_hv N (station_at N g) ≡ true)
      go (inl (p, t)) ih = (near_end N l, subst (Memᴰ (near_end N l)) (sym p) (Memᴰ.head refl), (near-end N d r l (a, b)).closed, t)
      go (inr (f, t)) ih =
          let x = closed-end N f t.closed in
          let y = ih f.line x.0 x.1 (omega (arith, ap length t.path)) in
          (y.0, subst (Memᴰ y.0) (sym t.path) (Memᴰ.tail (Memᴰ.tail y.1)), y.2, y.3)

  pub hv-end : (l : ℕ) → 1 ≤ l → l ≤ length N.lines → (g : End) × Memᴰ g (path_to_hv N (line l)) × (is_open N g ≡ false) × (is_hv N (station_at N g) ≡ true)
  hv-end l a b = hv-end-within (length (path_to_hv N (line l))) l a b (omega arith)

  -- ── the near end of a line ──
  pub near-self : (l : ℕ) → LineThere N l → Near N (near_end N l).line (near_end N l)
  near-self l i = let n = near-end N d r l (i.low, i.high) in subst (λ k. Near N k (near_end N l)) (sym n.own) n

  pub near-line : (l : ℕ) → LineThere N l → (near_end N l).line ≡ l
  near-line l i = (near-end N d r l (i.low, i.high)).own

  pub enough-self : (l k : ℕ) → AtLine N l k → length (closed_ends N) < length (path_to_hv N (line (near_end N l).line)) + k
  enough-self l k a = subst (λ m. length (closed_ends N) < length (path_to_hv N (line m)) + k) (sym (near-line l a.there)) a.enough

  -- ── the levels left ──
  pub line-levels : (l k : ℕ) → AtLine N l k → 1 ≤ k
  line-levels l k a = omega (arith, path-short N d r (line l) (a.there.low, a.there.high), a.enough)

  pub station-levels : (came : Option ℕ) (s k : ℕ) → AtStation N came s k → 1 ≤ k
  station-levels came s k a = omega (arith, path-short N d r (station s) (a.low, a.high), a.enough)

  -- from a station to a line
  pub at-line : (came : Option ℕ) (s k : ℕ) → AtStation N came s k → (f : End) → Leaves N came s f → AtLine N f.line (k - 1)
  at-line came s k a f l =
      let x = closed-end N f l.closed in
      record { there = record { low = x.0; high = x.1 }; enough = omega (arith, station-levels came s k a, ap length (a.below f l), a.enough) }

  pub leaves-near : (came : Option ℕ) (s k : ℕ) → AtStation N came s k → (f : End) → Leaves N came s f → near_end N f.line ≡ f
  leaves-near came s k a f l = near-is N f.line f _ (a.below f l)

  -- from a line to its far station
  module _ (l k : ℕ) (a : AtLine N l k) (c : is_open N (far (near_end N l)) ≡ false) where
    far-in : LineThere N (far (near_end N l)).line
    far-in = let x = closed-end N (far (near_end N l)) c in record { low = x.0; high = x.1 }

    fed : path_to_hv N (station (station_at N (far (near_end N l)))) ≡ far (near_end N l) ∷ path_to_hv N (line l)
    fed = (far-first N d r l (a.there.low, a.there.high) c).path ∙ ap (λ m. far (near_end N l) ∷ path_to_hv N (line m)) (near-line l a.there)

    leads : (f : End) → is_open N f ≡ false → station_at N f ≡ station_at N (far (near_end N l)) → f ≢ far (near_end N l) → path_to_hv N (line f.line) ≡ f ∷ path_to_hv N (station (station_at N (far (near_end N l))))
    unfolding first_end
    leads f o p n = ⊎_elim
        (λ q. q ∙ ap (λ x. f ∷ path_to_hv N (station x)) p)
        (λ q. absurd (n (ap first_end (sym q ∙ ap (λ x. path_to_hv N (station x)) p ∙ fed))))
        (end-first N d r f o)

    came-far : (f : End) → is_open N f ≡ false → station_at N f ≡ station_at N (far (near_end N l)) → same_end f (far (near_end N l)) ≡ eqb f.line l
    came-far f o p = go (end-discrete f (far (near_end N l)))
      where
        go : Dec (f ≡ far (near_end N l)) → same_end f (far (near_end N l)) ≡ eqb f.line l
        go (yes q) = (same_end-is f (far (near_end N l))).1 q ∙ sym (eq-eqb f.line l (ap (λ (x : End). x.line) q ∙ near-line l a.there))
        go (no n) =
            same_not same_end-is f (far (near_end N l)) n
            ∙ sym (ne_eqb f.line l (λ z. omega (arith, ap length fed, ap length (leads f o p n), ap (λ m. length (path_to_hv N (line m))) z)))

    pub at-far : AtStation N (Some l) (station_at N (far (near_end N l))) (k - 1)
    at-far =
        let i = station-in N d (far (near_end N l)) far-in.low far-in.high in
        record {
          low = i.0;
          high = i.1;
          below = λ f m. leads f m.closed m.at (λ q. eqb-false f.line l m.other (ap (λ (x : End). x.line) q ∙ near-line l a.there));
          came-by = came-far;
          enough = omega (arith, line-levels l k a, ap length fed, a.enough);
        }

  -- at an HV station
  pub at-hv : (s k : ℕ) → is_hv N s ≡ true → length (closed_ends N) < k → AtStation N None s k
  unfolding at_hv
  at-hv s k h m =
      let i = root_in N d (station s) h in
      record { low = i.0; high = i.1; below = λ f l. leads f l (end-first N d r f l.closed); came-by = λ f c p. came f c; enough = omega arith }
    where
      none : [] ≡ path_to_hv N (station s)
      none = path-only N d r (root_in N d (station s) h) (record { root = station s; is-root = h; trail = record { walk = stop refl; once = tt } })

      leads : (f : End) → Leaves N None s f
          → (path_to_hv N (line f.line) ≡ f ∷ path_to_hv N (station (station_at N f))) ⊎ (path_to_hv N (station (station_at N f)) ≡ f ∷ path_to_hv N (line f.line))
          → path_to_hv N (line f.line) ≡ f ∷ path_to_hv N (station s)
      leads f l (inl p) = p ∙ ap (λ x. f ∷ path_to_hv N (station x)) l.at
      leads f l (inr p) = absurd (omega (arith, ap length (none ∙ ap (λ x. path_to_hv N (station x)) (sym l.at) ∙ p)))

      came : (f : End) → is_open N f ≡ false → same_end f (came_end N None) ≡ false
      came f c = same_not same_end-is f (came_end N None) (λ q. let z : f.line ≡ 0 = ap (λ (x : End). x.line) q in omega (arith, (closed-end N f c).0))
