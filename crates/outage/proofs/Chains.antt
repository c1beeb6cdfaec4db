-- The sum over the ends of a station, end by end of its list.
use Prim.Native.Nat.{ℕ, zero, suc, ◌+◌, ◌*◌, ◌-◌, ◌^◌, ◌≤◌, ◌<◌}
use mathlib.Core.Path.{◌≡◌, refl, sym, ap, ◌∙◌, subst}
use mathlib.Core.Bool.{Bool, true, false, true≢false, not, ◌&&◌}
use mathlib.Core.Logic.{◌≢◌, ◌⊎◌, inl, inr, ⊎_elim}
use mathlib.Core.List.Memᴰ
use mathlib.Core.List.{List, [], ◌∷◌, map, Memᴰ}
use native.Mathlib.Omega.{arith}
use lib.Dec.{eqb}
use lib.ListN.{length}
use borrow.Author.Tests.{eqb-true, eq-eqb, not-true}
use Rattle.std.specs.Prelude.{Option}
use Rattle.model.specs.Lists.{sum, keep}
use Rattle.model.specs.Network.{Network}
use Rattle.model.specs.Paths.{End, same_end, is_open, station_at, closed_ends, customers_of}
use Rattle.theory.specs.Reading.{Read}
use Rattle.theory.specs.Sizes.{keep-length, read-sized, customers_behind-size}
use Rattle.theory.specs.Ends.{in-keep, keep-in, end-discrete, in-closed, closed_in}
use Rattle.theory.specs.Radial.{Rules}
use Rattle.theory.specs.Behind.{station_sum, line_sum}
use Rattle.tree.specs.Linked.{ends_at}
use Rattle.tree.specs.Outwards.{near_end}
use Rattle.tree.specs.Queue.{of_feeder, leaving}
use Rattle.tree.proofs.Lengths.{closed-length}
use Rattle.outage.specs.declared.Behind.{Behind}
use Rattle.outage.specs.Below.{came_end, Leaves, AtStation, Filled}
use Rattle.outage.proofs.Paths.{station-levels, at-line, leaves-near}
use Rattle.outage.proofs.Filling.{filled_none, filled-fewer, filled-both, line-customers}

-- ── lists ──
-- both of two tests, one after the other
keep-and : {A : Type 0} (p q : A → Bool) (xs : List A) → keep (λ x. p x && q x) xs ≡ keep q (keep p xs)
unfolding keep
keep-and p q [] = refl
keep-and {A} p q (x ∷ xs) = go (p x) (keep-and p q xs)
  where
    go : (b : Bool) → keep (λ x. p x && q x) xs ≡ keep q (keep p xs)
        → ◌≡◌ {A = List A} (elim (b && q x) as (λ z. List A) [ true ↦ x ∷ keep (λ x. p x && q x) xs | false ↦ keep (λ x. p x && q x) xs ]) (keep q (elim b as (λ z. List A) [ true ↦ x ∷ keep p xs | false ↦ keep p xs ]))
    go true ih = ap (λ ys. elim (q x) as (λ z. List A) [ true ↦ x ∷ ys | false ↦ ys ]) ih
    go false ih = ih

-- a sum of values up to `most`
sum-within : {A : Type 0} (f : A → ℕ) (most : ℕ) (xs : List A) → ((x : A) → Memᴰ x xs → f x ≤ most) → sum (map f xs) ≤ length xs * most
unfolding sum
sum-within f most [] h = omega arith
sum-within f most (x ∷ xs) h = omega (arith, h x (Memᴰ.head refl), sum-within f most xs (λ y m. h y (Memᴰ.tail m)))

-- two tests that agree on the elements of a list
keep-same : {A : Type 0} (p q : A → Bool) (xs : List A) → ((x : A) → Memᴰ x xs → p x ≡ q x) → keep p xs ≡ keep q xs
unfolding keep
keep-same p q [] h = refl
keep-same {A} p q (x ∷ xs) h =
    ap (λ b. elim b as (λ z. List A) [ true ↦ x ∷ keep p xs | false ↦ keep p xs ]) (h x (Memᴰ.head refl))
    ∙ ap (λ ys. elim (q x) as (λ z. List A) [ true ↦ x ∷ ys | false ↦ ys ]) (keep-same p q xs (λ y m. h y (Memᴰ.tail m)))

-- ── the sum over the ends of a list ──
unfoldable pub sum_left : Network → ℕ → Option ℕ → List End → ℕ
sum_left N k came es = sum (map (λ d. line_sum N k d) (leaving came es))

module _ (N : Network) (k : ℕ) (came : Option ℕ) (e : End) (es : List End) where
  left-more : of_feeder came e ≡ false → sum_left N k came (e ∷ es) ≡ line_sum N k e + sum_left N k came es
  unfolding sum_left sum keep
  left-more n = rw (keep, n)

  left-skip : of_feeder came e ≡ true → sum_left N k came (e ∷ es) ≡ sum_left N k came es
  unfolding sum_left keep
  left-skip p = rw (keep, p)

left-none : (N : Network) (k : ℕ) (came : Option ℕ) → sum_left N k came [] ≡ 0
unfolding sum_left sum keep
left-none N k came = refl

-- an end in the list of a station
at-station : (N : Network) (s : ℕ) (d : End) → Memᴰ d (ends_at N s) → (is_open N d ≡ false) × (station_at N d ≡ s)
at-station N s d m = let k = keep-in (λ e. eqb (station_at N e) s) d (closed_ends N) m in (closed_in N d k.0, eqb-true (station_at N d) s k.1)

left-all : (N : Network) (came : Option ℕ) (s k : ℕ) → AtStation N came s k → 1 ≤ k → customers_of N s + sum_left N (k - 1) came (ends_at N s) ≡ station_sum N k (came_end N came) s
unfolding sum_left station_sum
left-all N came s zero a h = absurd (omega arith)
left-all N came s (suc k) a h =
    ap (λ j. customers_of N s + sum_left N j came (ends_at N s)) {x = suc k - 1} {y = k} (omega arith)
    ∙ ap (λ ds. customers_of N s + sum (map (λ d. line_sum N k d) ds)) (
    keep-same (λ d. not (of_feeder came d)) (λ d. not (same_end d (came_end N came))) (ends_at N s) (λ d m. let x = at-station N s d m in ap not (sym (a.came-by d x.0 x.1)))
    ∙ sym (keep-and (λ d. eqb (station_at N d) s) (λ d. not (same_end d (came_end N came))) (closed_ends N))
    )

-- The sum at a station when these ends of its list are left: those before them are summed and noted.
pub record Part (N : Network) (came : Option ℕ) (s k : ℕ) (left : List End) (total : ℕ) (old new : Behind) : Type 0 where
  pub whole : total + sum_left N (k - 1) came left ≡ station_sum N k (came_end N came) s
  pub among : (d : End) → Memᴰ d left → Memᴰ d (ends_at N s)
  pub filled : Filled N (λ d. Leaves N came s d × (Memᴰ d left → ⊥)) old new

module _ {N : Network} {came : Option ℕ} {s k : ℕ} where
  -- none is summed yet
  pub part-start : Read N → Rules N → AtStation N came s k → (old : Behind) (left : List End) → left ≡ ends_at N s → (total : ℕ) → total ≡ customers_of N s → Part N came s k left total old old
  part-start d r a old left e total p =
      subst (λ es. Part N came s k es total old old) (sym e) (record {
        whole = ap (λ n. n + sum_left N (k - 1) came (ends_at N s)) p ∙ left-all N came s k a (station-levels N d r came s k a);
        among = λ e m. m;
        filled = filled_none N _ old (λ e p. p.1 (in-keep (λ e. eqb (station_at N e) s) e (closed_ends N) (in-closed N e p.0.closed) (eq-eqb (station_at N e) s p.0.at)));
      })

  module _ {total : ℕ} {old new : Behind} where
    -- all are summed
    pub part-sum : Part N came s k [] total old new → total ≡ station_sum N k (came_end N came) s
    part-sum p = omega (arith, p.whole, left-none N (k - 1) came)

    pub part_filled : Part N came s k [] total old new → Filled N (Leaves N came s) old new
    part_filled p = filled-fewer N (λ d. Leaves N came s d × (Memᴰ d [] → ⊥)) (Leaves N came s) old new (λ d l. (l, λ m. Memᴰ.not-nil m)) p.filled

    module _ {e : End} {rest : List End} (p : Part N came s k (e ∷ rest) total old new) where
      -- the end itself
      next-at : (is_open N e ≡ false) × (station_at N e ≡ s)
      next-at = at-station N s e (p.among e (Memᴰ.head refl))

      not_left : (d : End) → d ≢ e → (Memᴰ d rest → ⊥) → Memᴰ d (e ∷ rest) → ⊥
      not_left d n m l = ⊎_elim (λ q. n q) (λ t. m t) (Memᴰ.cases_cons l)

      -- past an end of the line by which we came
      pub part-skip : of_feeder came e ≡ true → Part N came s k rest total old new
      part-skip q = record {
        whole = ap (λ n. total + n) (sym (left-skip N (k - 1) came e rest q)) ∙ p.whole;
        among = λ d m. p.among d (Memᴰ.tail m);
        filled = filled-fewer N (λ d. Leaves N came s d × (Memᴰ d (e ∷ rest) → ⊥)) (λ d. Leaves N came s d × (Memᴰ d rest → ⊥)) old new
            (λ d l. (l.0, not_left d (λ z. true≢false (sym q ∙ ap (of_feeder came) (sym z) ∙ l.0.other)) l.1)) p.filled;
      }

      module _ (n : of_feeder came e ≡ false) where
        pub part-leaves : Leaves N came s e
        part-leaves = record { closed = next-at.0; at = next-at.1; other = n }

        more : total + line_sum N (k - 1) e + sum_left N (k - 1) came rest ≡ station_sum N k (came_end N came) s
        more = omega (arith, p.whole, left-more N (k - 1) came e rest n)

        pub part-fits : total + line_sum N (k - 1) e ≤ station_sum N k (came_end N came) s
        part-fits = omega (arith, more)

        pub part-more : (r : ℕ) (newer : Behind) → r ≡ line_sum N (k - 1) e → Filled N (λ d. d ≡ e) new newer → Part N came s k rest (total + r) old newer
        part-more r newer q f = record {
          whole = omega (arith, more);
          among = λ d m. p.among d (Memᴰ.tail m);
          filled = filled-both N (λ d. Leaves N came s d × (Memᴰ d (e ∷ rest) → ⊥)) (λ d. d ≡ e) (λ d. Leaves N came s d × (Memᴰ d rest → ⊥)) old new newer
              (λ d l. which d l (end-discrete d e)) p.filled f;
        }
          where
            which : (d : End) → Leaves N came s d × (Memᴰ d rest → ⊥) → Dec (d ≡ e) → (Leaves N came s d × (Memᴰ d (e ∷ rest) → ⊥)) ⊎ (d ≡ e)
            which d l (yes q) = inr q
            which d l (no q) = inl (l.0, not_left d q l.1)

-- ── sizes ──
-- the sum at a station is below 2^64
pub station-size : (N : Network) (d : Read N) (r : Rules N) (came : Option ℕ) (s k : ℕ) → AtStation N came s k → station_sum N k (came_end N came) s < 2 ^ 64
unfolding sum_left
station-size N d r came s k a = omega (
  arith,
  left-all N came s k a (station-levels N d r came s k a),
  sum-within (λ e. line_sum N (k - 1) e) 10240000 (leaving came (ends_at N s)) each,
  keep-length (λ e. not (of_feeder came e)) (ends_at N s),
  keep-length (λ e. eqb (station_at N e) s) (closed_ends N),
  closed-length N,
  (read-sized N d).line_count,
  (read-sized N d).customers s,
)
  where
    each : (e : End) → Memᴰ e (leaving came (ends_at N s)) → line_sum N (k - 1) e ≤ 10240000
    each e m =
        let q = keep-in (λ e. not (of_feeder came e)) e (ends_at N s) m in
        let c = at-station N s e q.0 in
        let l : Leaves N came s e = record { closed = c.0; at = c.1; other = not-true (of_feeder came e) q.1 } in
        let t = at-line N d r came s k a e l in
        omega (arith, ap (λ x. line_sum N (k - 1) x) (leaves-near N d r came s k a e l), line-customers N d r e.line (k - 1) t, customers_behind-size N (read-sized N d) (near_end N e.line))
