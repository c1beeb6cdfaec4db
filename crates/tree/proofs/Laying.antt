-- How the queue of lines grows, station by station, until every line stands in it.
use Prim.Native.Nat.{ℕ, zero, suc, ◌+◌, ◌-◌, ◌≤◌, ◌<◌}
use mathlib.Core.Path.{◌≡◌, refl, sym, ap, ◌∙◌, subst}
use mathlib.Core.Bool.{Bool, true, false}
use mathlib.Core.Logic.{◌⊎◌, inl, inr, ⊎_elim}
use mathlib.Core.List.Memᴰ
use mathlib.Core.List.{List, [], ◌∷◌, ◌++◌, map, Memᴰ}
use native.Mathlib.Decide.{dec_lt}
use native.Mathlib.Omega.{arith}
use lib.ListN.{length, get_or, length-append, get_or-append}
use lib.Seq.{get_or-append-add}
use Rattle.model.specs.Lists.{numbers}
use Rattle.model.specs.Network.{Network}
use Rattle.model.specs.Paths.{station, line, End, is_open, station_at, is_hv}
use Rattle.model.specs.Outage.{path_to_hv}
use Rattle.graphs.specs.Graph.{Fresh, NoRepeat}
use Rattle.graphs.specs.Behind.{short}
use Rattle.theory.specs.Reading.{Read}
use Rattle.theory.specs.Sizes.{numbers-length}
use Rattle.theory.specs.Ends.{in-numbers, numbers-in, closed-end}
use Rattle.theory.specs.Radial.{Rules, In, station-in}
use Rattle.theory.specs.Behind.{none_of, append-once, numbers-once}
use Rattle.tree.specs.Outwards.{near_end, feeder}
use Rattle.tree.specs.Queue.{Laid, Reached}
use Rattle.tree.specs.Feeding.{Near}
use Rattle.tree.proofs.Near.{near-end, far-end}
use Rattle.tree.proofs.Leaving.{Leaves}

-- ── places in a list ──
pub place_of : {x : ℕ} {xs : List ℕ} → Memᴰ x xs → (i : ℕ) × (i < length xs) × (get_or xs i 0 ≡ x)
place_of (Memᴰ.head e) = (0, omega arith, sym e)
place_of (Memᴰ.tail m) = let r = place_of m in (suc r.0, omega (arith, r.1), r.2)

pub at_place : (xs : List ℕ) (i : ℕ) → i < length xs → Memᴰ (get_or xs i 0) xs
at_place [] i h = absurd (omega arith)
at_place (x ∷ xs) zero h = Memᴰ.head refl
at_place (x ∷ xs) (suc i) h = Memᴰ.tail (at_place xs i (omega arith))

-- the lines of ends that are their near ends
lines-once : (N : Network) (es : List End) → ((e : End) → Memᴰ e es → near_end N e.line ≡ e) → NoRepeat es → NoRepeat (map (λ e. e.line) es)
lines-once N [] h n = tt
lines-once N (e ∷ es) h n = (
  none_of e.line (map (λ e. e.line) es) (λ l m p.
      let f = Memᴰ.of_map (λ (e : End). e.line) es m in
      apart es f.0 f.1 n.0 (sym (h e (Memᴰ.head refl)) ∙ ap (near_end N) (p ∙ sym f.2) ∙ h f.0 (Memᴰ.tail f.1))),
  lines-once N es (λ f m. h f (Memᴰ.tail m)) n.1,
)
  where
    apart : (es : List End) (f : End) → Memᴰ f es → Fresh e es → e ≡ f → ⊥
    apart [] f m q p = Memᴰ.not-nil m
    apart (g ∷ es) f m q p = ⊎_elim (λ k. q.0 (p ∙ k)) (λ k. apart es f k q.1 p) (Memᴰ.cases_cons m)

module _ (N : Network) where
  -- no more lines than the file has
  pub laid-count : {Done : ℕ → Type 0} {ls : List ℕ} → Laid N Done ls → length ls ≤ length N.lines
  laid-count {Done} {ls} t =
      omega (arith, numbers-length 1 (length N.lines), short ls (numbers 1 (length N.lines)) t.once (λ l m. let i = t.inside l m in in-numbers l 1 (length N.lines) i.0 (omega (arith, i.1))))

  -- the same stations
  pub laid_same : {Done Done' : ℕ → Type 0} {ls : List ℕ} → ((t : ℕ) → Done t → Done' t) → ((t : ℕ) → Done' t → Done t) → Laid N Done ls → Laid N Done' ls
  laid_same f g t = record { inside = t.inside; near = λ l m. f _ (t.near l m); all = λ l i k. t.all l i (g _ k); once = t.once; after = t.after }

  module _ (d : Read N) (r : Rules N) where
    -- one station more
    pub laid_more : {Done Done' : ℕ → Type 0} {ls : List ℕ} (s : ℕ) (es : List End) (fed : ℕ) → Laid N Done ls → Leaves N s es fed → (Done s → ⊥) → (1 ≤ fed → Memᴰ fed ls)
        → ((t : ℕ) → Done t → Done' t) → Done' s → ((t : ℕ) → Done' t → Done t ⊎ (t ≡ s)) → Laid N Done' (ls ++ map (λ e. e.line) es)
    laid_more {Done} {Done'} {ls} s es fed t v new known f here g = record {
      inside = λ l m. ⊎_elim (λ k. t.inside l k) (λ k. let o = of l k in subst (λ n. In N (line n)) o.2 (v.inside o.0 o.1)) (Memᴰ.append_cases ls m);
      near = λ l m. ⊎_elim (λ k. f _ (t.near l k)) (λ k. subst Done' (sym (at l k)) here) (Memᴰ.append_cases ls m);
      all = λ l i k. ⊎_elim (λ q. Memᴰ.append_left _ (t.all l i q)) (λ q. Memᴰ.append_right ls (Memᴰ.cast (sym (near-end N d r l i).own) (Memᴰ.map (λ (e : End). e.line) (v.all l i q)))) (g _ k);
      once = append-once ls (map (λ e. e.line) es) t.once (lines-once N es v.near v.once) (λ x y m k p. new (subst Done (at y k) (subst (λ n. Done (station_at N (near_end N n))) p (t.near x m))));
      after = λ i h. after i h (dec_lt i (length ls));
    }
      where
        of : (l : ℕ) → Memᴰ l (map (λ e. e.line) es) → (e : End) × Memᴰ e es × (e.line ≡ l)
        of l k = Memᴰ.of_map (λ (e : End). e.line) es k

        at : (l : ℕ) → Memᴰ l (map (λ e. e.line) es) → station_at N (near_end N l) ≡ s
        at l k = let o = of l k in ap (λ n. station_at N (near_end N n)) (sym o.2) ∙ ap (station_at N) (v.near o.0 o.1) ∙ v.at o.0 o.1

        fed_by : (l : ℕ) → Memᴰ l (map (λ e. e.line) es) → feeder N l ≡ fed
        fed_by l k = let o = of l k in ap (feeder N) (sym o.2) ∙ v.feeds o.0 o.1

        added : (i k : ℕ) → i ≡ length ls + k → k < length (map (λ e. e.line) es) → Memᴰ (get_or (ls ++ map (λ e. e.line) es) i 0) (map (λ e. e.line) es)
        added i k p h = Memᴰ.cast (ap (λ n. get_or (ls ++ map (λ e. e.line) es) n 0) p ∙ get_or-append-add ls (map (λ e. e.line) es) k 0) (at_place (map (λ e. e.line) es) k h)

        later : (i l : ℕ) → length ls ≤ i → 1 ≤ feeder N l → Memᴰ l (map (λ e. e.line) es) → (j : ℕ) × (j < i) × (get_or (ls ++ map (λ e. e.line) es) j 0 ≡ feeder N l)
        later i l h a k =
            let x = place_of (known (subst (λ n. 1 ≤ n) (fed_by l k) a)) in
            (x.0, omega (arith, x.1), get_or-append ls (map (λ e. e.line) es) 0 x.0 x.1 ∙ x.2 ∙ sym (fed_by l k))

        after : (i : ℕ) → i < length (ls ++ map (λ e. e.line) es) → Dec (i < length ls) → 1 ≤ feeder N (get_or (ls ++ map (λ e. e.line) es) i 0)
            → (j : ℕ) × (j < i) × (get_or (ls ++ map (λ e. e.line) es) j 0 ≡ feeder N (get_or (ls ++ map (λ e. e.line) es) i 0))
        after i h (yes q) a =
            let e = get_or-append ls (map (λ e. e.line) es) 0 i q in
            let x = t.after i q (subst (λ n. 1 ≤ feeder N n) e a) in
            (x.0, x.1, get_or-append ls (map (λ e. e.line) es) 0 x.0 (omega (arith, x.1)) ∙ x.2 ∙ ap (feeder N) (sym e))
        after i h (no q) a = later i (get_or (ls ++ map (λ e. e.line) es) i 0) (omega arith) a (added i (i - length ls) (omega arith) (omega (arith, length-append ls (map (λ e. e.line) es))))

    -- where the far station of every line reached is one of the stations, every line is reached
    pub laid-all : {ls : List ℕ} → Laid N (Reached N ls) ls → (l : ℕ) → In N (line l) → Memᴰ l ls
    laid-all {ls} t l i = go (length (path_to_hv N (line l))) l i (omega arith)
      where
        go : (k l : ℕ) → In N (line l) → length (path_to_hv N (line l)) ≤ k → Memᴰ l ls
        go zero l i h = absurd (omega (arith, ap length (near-end N d r l i).path))
        go (suc k) l i h = up (is_hv N (station_at N (near_end N l))) refl (λ m j q. go k m j q)
          where
            n : Near N l (near_end N l)
            n = near-end N d r l i

            s : In N (station (station_at N (near_end N l)))
            s = let x = closed-end N (near_end N l) n.closed in station-in N d (near_end N l) x.0 x.1

            up : (b : Bool) → is_hv N (station_at N (near_end N l)) ≡ b → ((m : ℕ) → In N (line m) → length (path_to_hv N (line m)) ≤ k → Memᴰ m ls) → Memᴰ l ls
            up true q ih = t.all l i (inl q)
            up false q ih =
                let x = far-end N d r (station_at N (near_end N l)) s q in
                let e = x.0 in
                let f = x.1 in
                let c = closed-end N e f.closed in
                let m = ih e.line (c.0, c.1) (omega (arith, ap length n.path, ap length f.path)) in
                t.all l i (inr (e.line, m, ap (is_open N) (sym f.is-far) ∙ f.closed, ap (station_at N) (sym f.is-far) ∙ f.own))

    -- as many lines as the file has
    pub laid-full : {ls : List ℕ} → Laid N (Reached N ls) ls → length ls ≡ length N.lines
    laid-full {ls} t =
        omega (
          arith,
          laid-count t,
          numbers-length 1 (length N.lines),
          short (numbers 1 (length N.lines)) ls (numbers-once 1 (length N.lines)) (λ l m. let i = numbers-in l 1 (length N.lines) m in laid-all t l (i.0, omega (arith, i.1))),
        )
