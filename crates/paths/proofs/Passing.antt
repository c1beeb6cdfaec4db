-- What the paths of the lines meet, line by line from the HV stations outwards.
use Rattle.std.specs.Prelude.{None, Some}
use Prim.Native.Nat.{ℕ, zero, suc, ◌+◌, ◌-◌, ◌≤◌, ◌<◌}
use mathlib.Core.Path.{◌≡◌, refl, sym, ap, ◌∙◌, subst}
use mathlib.Core.List.{List, ◌∷◌}
use native.Mathlib.Decide.{ℕ_discrete}
use native.Mathlib.Omega.{arith}
use lib.ListN.{length, get_or, set}
use lib.Seq.{get_or-set_same, get_or-set_other}
use native.Mathlib.Decide.{dec_le}
use Rattle.std.proofs.lemmas.List.{get_or_past}
use Rattle.model.specs.Network.{Network}
use Rattle.model.specs.Paths.{line}
use Rattle.model.specs.Outage.{tripped}
use Rattle.theory.specs.Reading.{Read}
use Rattle.theory.specs.Radial.{Rules}
use Rattle.theory.specs.Forest.{tree}
use Rattle.theory.specs.Behind.{far}
use Rattle.network.specs.There.{LineThere}
use Rattle.network.specs.Found.{none-found, some-found}
use Rattle.tree.specs.Outwards.{near_end, feeder, fed_by}
use Rattle.tree.specs.Feeding.{Fed, by_hv, by_line}
use Rattle.tree.specs.Linked.{LineHeld}
use Rattle.tree.specs.Held.{near_in, feeder_in, lines_in, HoldsOutwards}
use Rattle.tree.specs.declared.Tree.{Tree}
use Rattle.tree.proofs.Fitting.{read_fits}
use Rattle.tree.proofs.Near.{feeder-none, feeds}
use Rattle.tree.proofs.Lengths.{closed-length, path-closed, path-short}
use Rattle.sets.specs.Sets.{route}
use Rattle.marks.specs.Held.{mark_on, HoldsPlaces, HoldsBreakers}
use Rattle.marks.specs.declared.Marks.{Marks}
use Rattle.paths.specs.Held.{breaker_of, HoldsPaths, HoldsFirsts}
use Rattle.paths.specs.Meets.{no_met, met_next, met_on, met_in, HoldsMets, path_beyond, Known}
use Rattle.paths.specs.declared.Met.{Met}
use Rattle.paths.specs.declared.Paths.{Paths}
use Rattle.paths.specs.declared.Firsts.{Firsts}
use Rattle.paths.proofs.Meeting.{AllClosed, marks-few, breakers-met, trips-met, places-met}

pub beyond-is : (N : Network) (l : ℕ) → 1 ≤ l → far (near_end N l) ∷ route N l ≡ path_beyond N l
beyond-is N zero h = absurd (omega arith)
beyond-is N (suc l) h = refl

-- ── the line that feeds a line ──
pub fed-none : (N : Network) (l : ℕ) → fed_by N l ≡ None → feeder N l ≡ 0
unfolding fed_by
fed-none N l h = none-found (feeder N l) h

pub fed-some : (N : Network) (l k : ℕ) → fed_by N l ≡ Some k → (feeder N l ≡ k) × (1 ≤ feeder N l)
unfolding fed_by
fed-some N l k h = some-found (feeder N l) k h

module _ (N : Network) (d : Read N) (r : Rules N) (l : ℕ) (i : 1 ≤ l) (j : l ≤ length N.lines) where
  -- the near end of a line is end 1 or 2 of it
  pub near-own : ((near_end N l).line ≡ l) × (1 ≤ (near_end N l).side) × ((near_end N l).side ≤ 2)
  near-own = (feeds N d r).ends l i j

  -- a line's path is its near end and the path of the station that its feeder feeds
  pub route-is : near_end N l ∷ path_beyond N (feeder N l) ≡ route N l
  route-is = go ((feeds N d r).fed l i j)
    where
      go : Fed N l → near_end N l ∷ path_beyond N (feeder N l) ≡ route N l
      go (by_hv p t) = ap (λ k. near_end N l ∷ path_beyond N k) (feeder-none N l (near_end N l) p) ∙ sym p
      go (by_line u v p) = ap (λ es. near_end N l ∷ es) (sym (beyond-is N (feeder N l) u)) ∙ sym p

  pub feeder-high : feeder N l ≤ length N.lines
  feeder-high = go ((feeds N d r).fed l i j)
    where
      go : Fed N l → feeder N l ≤ length N.lines
      go (by_hv p t) = omega (arith, feeder-none N l (near_end N l) p)
      go (by_line u v p) = v

  -- its ends are closed, and few
  pub route-closed : AllClosed N (route N l)
  route-closed e m = path-closed N d r (line l) (i, j) e m

  pub route-short : length (route N l) ≤ 1536
  route-short = omega (arith, path-short N d r (line l) (i, j), closed-length N, d.line_count, d.head.lines.high)

-- ── one line ──
module _ {N : Network} {t : Tree} {marks : Marks} {mets : List Met} {l : ℕ} (k : Known N t marks mets l) where
  by_near : met_next (mark_on marks (near_in t l)) (met_on marks (path_beyond N (feeder N l))) ≡ met_on marks (route N l)
  unfolding met_on
  by_near = ap (λ e. met_next (mark_on marks e) (met_on marks (path_beyond N (feeder N l)))) (k.feeders.nears l k.there) ∙ ap (met_on marks) (route-is N k.read k.rules l k.there.low k.there.high)

  -- at an HV station
  pub met-hv : feeder_in t l ≡ None → met_next (mark_on marks (near_in t l)) no_met ≡ met_on marks (route N l)
  unfolding met_on
  met-hv h = ap (λ f. met_next (mark_on marks (near_in t l)) (met_on marks (path_beyond N f))) (sym (fed-none N l (sym (k.feeders.feeds l k.there) ∙ h))) ∙ by_near

  -- fed by a line
  module _ (f : ℕ) (h : feeder_in t l ≡ Some f) where
    fed : (feeder N l ≡ f) × (1 ≤ feeder N l)
    fed = fed-some N l f (sym (k.feeders.feeds l k.there) ∙ h)

    pub fed-there : LineThere N f
    fed-there = record { low = omega (arith, fed); high = omega (arith, fed, feeder-high N k.read k.rules l k.there.low k.there.high) }

    pub fed-held : LineHeld f
    fed-held = record { low = fed-there.low; high = omega (arith, fed-there.high, (read_fits N k.read).lines) }

    fed-met : met_in mets f ≡ met_on marks (route N f)
    fed-met = subst (λ f. LineThere N f → met_in mets f ≡ met_on marks (route N f)) fed.0 k.above fed-there

    pub fed-few : (met_in mets f).count ≤ 1536
    fed-few = omega (arith, ap (λ (m : Met). m.count) fed-met, marks-few marks (route N f), route-short N k.read k.rules f fed-there.low fed-there.high)

    pub met-fed : met_next (mark_on marks (near_in t l)) (met_next (mark_on marks (far (near_in t f))) (met_in mets f)) ≡ met_on marks (route N l)
    unfolding met_on
    met-fed =
        (λ i. met_next (mark_on marks (near_in t l)) (met_next (mark_on marks (far (k.feeders.nears f fed-there i))) (fed-met i)))
        ∙ ap (λ es. met_next (mark_on marks (near_in t l)) (met_on marks es)) (beyond-is N f fed-there.low)
        ∙ ap (λ f. met_next (mark_on marks (near_in t l)) (met_on marks (path_beyond N f))) (sym fed.0)
        ∙ by_near

-- ── the pass ──
-- the first i lines of the order have theirs
abbrev pub Done : Network → Tree → Marks → List Met → ℕ → Type 0
Done N t marks mets i = (j : ℕ) → j < i → met_in mets (get_or (lines_in t) j 0) ≡ met_on marks (route N (get_or (lines_in t) j 0))

-- the order has a place for each line
pub order-long : (N : Network) (t : Tree) → HoldsOutwards N t → length N.lines ≤ length (lines_in t)
order-long N t o = go (dec_le (length N.lines) (length (lines_in t)))
  where
    go : Dec (length N.lines ≤ length (lines_in t)) → length N.lines ≤ length (lines_in t)
    go (yes p) = p
    go (no p) = absurd (omega (arith, (o.inside (length (lines_in t)) (omega arith)).low, get_or_past (lines_in t) (length (lines_in t)) 0 (omega arith)))

module _ (N : Network) (t : Tree) (marks : Marks) (mets : List Met) (d : Read N) (r : Rules N) (o : HoldsOutwards N t) where
  -- the next line
  pub next_known : (i : ℕ) → i < length N.lines → Done N t marks mets i → Known N t marks mets (get_or (lines_in t) i 0)
  next_known i q h = record {
    read = d;
    rules = r;
    feeders = o.feeders;
    there = o.inside i q;
    above = λ f. let x = o.after i q f.low in subst (λ l. met_in mets l ≡ met_on marks (route N l)) x.2 (h x.0 x.1);
  }

  -- one line more
  pub done_more : length mets ≡ 768 → (i : ℕ) (m : Met) → i < length N.lines → m ≡ met_on marks (route N (get_or (lines_in t) i 0)) → Done N t marks mets i
      → Done N t marks (set mets (get_or (lines_in t) i 0 - 1) m) (i + 1)
  done_more long i m q e h j b = go (ℕ_discrete (get_or (lines_in t) j 0) l)
    where
      l : ℕ
      l = get_or (lines_in t) i 0

      there : LineThere N l
      there = o.inside i q

      go : Dec (get_or (lines_in t) j 0 ≡ l) → met_in (set mets (l - 1) m) (get_or (lines_in t) j 0) ≡ met_on marks (route N (get_or (lines_in t) j 0))
      go (yes p) =
          ap (met_in (set mets (l - 1) m)) p ∙ get_or-set_same mets (l - 1) m no_met (omega (arith, there.low, there.high, (read_fits N d).lines)) ∙ e ∙ ap (λ l. met_on marks (route N l)) (sym p)
      go (no p) =
          get_or-set_other mets (l - 1) (get_or (lines_in t) j 0 - 1) m no_met (λ z. p (omega (arith, z, there.low, (o.inside j (omega arith)).low)))
          ∙ h j (before (ℕ_discrete j i))
        where
          before : Dec (j ≡ i) → j < i
          before (yes x) = absurd (p (ap (λ m. get_or (lines_in t) m 0) x))
          before (no x) = omega arith

  -- all lines
  pub done_all : (i : ℕ) → length N.lines ≤ i → Done N t marks mets i → HoldsMets N marks mets
  done_all i q h l a = let x = o.listed l a in subst (λ l. met_in mets l ≡ met_on marks (route N l)) x.2 (h x.0 (omega (arith, x.1)))

-- ── what they are ──
module _ (N : Network) (d : Read N) (r : Rules N) (marks : Marks) where
  pub paths-held : (p : Paths) → HoldsMets N marks p.mets.lines → HoldsBreakers N marks → HoldsPaths N p
  unfolding tripped
  paths-held p m h = record {
    trips = λ l a. ap (λ (m : Met). breaker_of m.first) (m l a) ∙ trips-met N marks h (route N l) (route-closed N d r l a.low a.high) ((tree N d r).trips l a.low a.high);
    counts = λ l a. ap (λ (m : Met). m.count) (m l a) ∙ breakers-met N marks h (route N l) (route-closed N d r l a.low a.high);
  }

  pub firsts-held : (f : Firsts) → HoldsMets N marks f.mets.lines → HoldsPlaces N marks → HoldsFirsts N f
  firsts-held f m h l a = ap (λ (m : Met). m.first) (m l a) ∙ places-met N d marks h (route N l) (route-closed N d r l a.low a.high)
