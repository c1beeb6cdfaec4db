-- The places above a place of an accepted file: the next of them, and those above that one.
use Rattle.std.specs.Prelude.{None, Some}
use Prim.Native.Nat.{ℕ, ◌≤◌, ◌<◌}
use mathlib.Core.Path.{◌≡◌, refl, sym, ap, ◌∙◌}
use mathlib.Core.Bool.{Bool, true, false, ◌&&◌, ◌||◌, true≢false}
use mathlib.Core.Logic.{⊎_elim}
use mathlib.Core.List.{List, [], ◌∷◌}
use native.Mathlib.Decide.{ℕ_discrete}
use native.Mathlib.Omega.{arith}
use lib.Dec.{eqb}
use lib.ListN.{length}
use borrow.Author.Tests.{eq-eqb, ne_eqb}
use Rattle.model.specs.Lists.{any, first_or}
use Rattle.model.specs.Network.{Network}
use Rattle.model.specs.Paths.{End, same_end}
use Rattle.savings.specs.Facts.{or_cases, same_end-eq, same_end-refl}
use Rattle.savings.specs.First.{this}
use Rattle.savings.specs.Breakers.{end_at}
use Rattle.theory.specs.Best.{Accepted, place-closed}
use Rattle.network.specs.There.{LineThere}
use Rattle.network.specs.Found.{found}
use Rattle.tree.specs.Outwards.{near_end, feeder}
use Rattle.tree.specs.Linked.{LineHeld}
use Rattle.tree.specs.Held.{near_in, feeder_in, HoldsFeeders}
use Rattle.tree.specs.declared.Tree.{Tree}
use Rattle.tree.proofs.Fitting.{read_fits}
use Rattle.sets.specs.Ways.{has, Way, has-onward}
use Rattle.sets.specs.Onward.{onward, onward-first, way-onward}
use Rattle.sets.specs.Stops.{first_place}
use Rattle.sets.proofs.Stops.{passes-stop}
use Rattle.sets.specs.Apart.{place_ends, ends-apart}
use Rattle.marks.specs.Held.{place_on, HoldsPlaces}
use Rattle.marks.specs.declared.Marks.{Marks}
use Rattle.paths.specs.Held.{first_in, first_beyond_in, HoldsFirsts}
use Rattle.paths.specs.Meets.{path_beyond}
use Rattle.paths.specs.declared.Firsts.{Firsts}
use Rattle.relations.specs.declared.Relation.TheVariants.{Apart}
use Rattle.relations.specs.declared.Relations.{Relations}
use Rattle.relations.specs.Related.{relation, between_in}
use Rattle.relations.specs.Climb.{is_above, place_above, Among, noted}
use Rattle.marks.proofs.Marking.{place-fits}
use Rattle.marks.proofs.PlaceOn.{Unplaced, Placed, place-or-none, listed-number, listed-place, no-end-unplaced}
use Rattle.paths.proofs.Passing.{beyond-is, route-is, feeder-high, fed-none, fed-some}
use Rattle.paths.proofs.FarEnds.{first-beyond}
use Rattle.relations.proofs.Climbing.{from, from_is, Climb}

-- the path onward from an end of a path is shorter
way-shorter : (up : End → List End) (q : End) (es : List End) → Way up es → has q es ≡ true → length (up q) < length es
unfolding any
way-shorter up q [] w h = absurd (true≢false (sym h))
way-shorter up q (e ∷ es) w h = or_cases (same_end e q) (has q es)
    (λ s. let x : length es ≡ length (up q) = ap length (w.0 ∙ ap up (same_end-eq e q s)) in omega arith)
    (λ s. let x = way-shorter up q es w.2 s in omega arith) h

module _ (N : Network) (a : Accepted N) where
  way-place : (p : ℕ) → Among (length N.places) p → Way (onward N) (onward N (end_at N p))
  way-place p i = way-onward N a.read a.rules (end_at N p) (place-closed N a p (listed-number N p i.0 i.1))

  same_place : (q p : ℕ) → Among (length N.places) q → Among (length N.places) p → same_end (end_at N p) (end_at N q) ≡ eqb q p
  same_place q p i j = go (ℕ_discrete q p)
    where
      go : Dec (q ≡ p) → same_end (end_at N p) (end_at N q) ≡ eqb q p
      go (yes e) = ap (λ x. same_end (end_at N p) (end_at N x)) e ∙ same_end-refl (end_at N p) ∙ sym (eq-eqb q p e)
      go (no e) = not_same (same_end (end_at N p) (end_at N q)) refl ∙ sym (ne_eqb q p e)
        where
          not_same : (b : Bool) → same_end (end_at N p) (end_at N q) ≡ b → b ≡ false
          not_same true h = absurd (e (ends-apart N a q p (listed-number N q i.0 i.1) (listed-number N p j.0 j.1) (sym (same_end-eq _ _ h))))
          not_same false h = refl

  -- the chain of places above one
  pub climb-places : Climb (length N.places) (is_above N) (place_above N) (λ p. length (onward N (end_at N p)))
  climb-places = record {
    high = λ p i. ⊎_elim (λ n. omega (arith, n.0)) (λ g. g.high) (place-or-none N (first_place (place_ends N) (onward N (end_at N p))));
    chain = chain;
    falls = λ q p i j h. way-shorter (onward N) (end_at N q) (onward N (end_at N p)) (way-place p j) h;
    over = λ q b p i j k h g. has-onward (onward N) (end_at N b) (end_at N q) (onward N (end_at N p)) (way-place p k) g h;
  }
    where
      chain : (q p : ℕ) → Among (length N.places) q → Among (length N.places) p → is_above N q p ≡ from (is_above N) (place_above N p) q
      chain q p i j = passes-stop (onward N) (place_ends N) (no-end-unplaced N a.read).1 (end_at N q) (listed-place N q i.0 i.1) (onward N (end_at N p)) (way-place p j)
          ∙ ⊎_elim none some (place-or-none N s)
        where
          s : End
          s = first_place (place_ends N) (onward N (end_at N p))

          none : Unplaced N s → (has s (place_ends N) && (same_end s (end_at N q) || has (end_at N q) (onward N s))) ≡ from (is_above N) (place_on N s) q
          none n = ap (λ b. b && (same_end s (end_at N q) || has (end_at N q) (onward N s))) n.1 ∙ ap (λ k. from (is_above N) k q) (sym n.0)

          some : Placed N s → (has s (place_ends N) && (same_end s (end_at N q) || has (end_at N q) (onward N s))) ≡ from (is_above N) (place_on N s) q
          some g =
              (λ k. g.listed k && (same_end (sym g.is k) (end_at N q) || has (end_at N q) (onward N (sym g.is k))))
              ∙ ap (λ b. b || is_above N q (place_on N s)) (same_place q (place_on N s) i (g.low, g.high))
              ∙ sym (from_is (is_above N) (place_on N s) q g.low)

  -- ── the first place on the path onward from a place ──
  module _ (t : Tree) (f : Firsts) (o : HoldsFeeders N t) (h : HoldsFirsts N f) (p : ℕ) (i : Among (length N.places) p) where
    abbrev e : End
    e = end_at N p

    abbrev l : ℕ
    l = (end_at N p).line

    pub line-there : LineThere N l
    line-there = let x = place-fits N a.read p i.0 i.1 in record { low = x.line.low; high = x.line.high }

    pub line-held : LineHeld l
    line-held = record { low = line-there.low; high = omega (arith, line-there.high, (read_fits N a.read).lines) }

    near-is : near_in t l ≡ near_end N l
    near-is = o.nears l line-there

    path-first : onward N e ≡ this (same_end (near_end N l) e) (path_beyond N (feeder N l)) (near_end N l ∷ path_beyond N (feeder N l))
    path-first = onward-first N e (near_end N l) (path_beyond N (feeder N l)) (route-is N a.read a.rules l line-there.low line-there.high)

    -- the place is on the far end
    pub above-far : same_end e (near_in t l) ≡ false → first_in f l ≡ found (place_above N p)
    above-far d =
        h l line-there
        ∙ ap (λ es. found (place_on N (first_place (place_ends N) es)))
        (sym (path-first ∙ ap (λ b. this b (path_beyond N (feeder N l)) (near_end N l ∷ path_beyond N (feeder N l))) (other (same_end (near_end N l) e) refl) ∙ route-is N a.read a.rules l line-there.low line-there.high))
      where
        other : (b : Bool) → same_end (near_end N l) e ≡ b → b ≡ false
        other true g = absurd (true≢false (sym (ap (same_end e) (near-is ∙ same_end-eq (near_end N l) e g) ∙ same_end-refl e) ∙ d))
        other false g = refl

    -- the place is on the near end
    module _ (d : same_end e (near_in t l) ≡ true) where
      near-path : onward N e ≡ path_beyond N (feeder N l)
      near-path =
          path-first
          ∙ ap (λ b. this b (path_beyond N (feeder N l)) (near_end N l ∷ path_beyond N (feeder N l)))
          (ap (λ x. same_end x e) (sym (same_end-eq e (near_in t l) d ∙ near-is)) ∙ same_end-refl e)

      pub above-hv : feeder_in t l ≡ None → None ≡ found (place_above N p)
      unfolding first_or
      above-hv z =
          sym (ap (λ es. found (place_on N (first_place (place_ends N) es))) (near-path ∙ ap (path_beyond N) (fed-none N l (sym (o.feeds l line-there) ∙ z)))
          ∙ ap found (no-end-unplaced N a.read).0)

      module _ (k : ℕ) (z : feeder_in t l ≡ Some k) where
        fed : (feeder N l ≡ k) × (1 ≤ feeder N l)
        fed = fed-some N l k (sym (o.feeds l line-there) ∙ z)

        feeder-there : LineThere N k
        feeder-there = record { low = omega (arith, fed); high = omega (arith, fed, feeder-high N a.read a.rules l line-there.low line-there.high) }

        pub feeder-held : LineHeld k
        feeder-held = record { low = feeder-there.low; high = omega (arith, feeder-there.high, (read_fits N a.read).lines) }

        pub above-fed : (places : Marks) → HoldsPlaces N places → first_beyond_in f t places k ≡ found (place_above N p)
        above-fed places m =
            first-beyond N a.read a.rules t places f o.nears m h k feeder-there
            ∙ ap (λ es. found (place_on N (first_place (place_ends N) es))) (beyond-is N k feeder-there.low ∙ sym (near-path ∙ ap (path_beyond N) fed.0))

  -- ── the relations ──
  pub relations-all : (r : Relations)
      → ((q p : ℕ) → Among (length N.places) q → Among (length N.places) p → between_in r q p ≡ noted (is_above N q p) (is_above N p q) Apart)
      → (q p : ℕ) → 1 ≤ q → q ≤ length N.places → 1 ≤ p → p ≤ length N.places → between_in r q p ≡ relation N q p
  unfolding relation
  relations-all r h q p i j k l = h q p (i, j) (k, l)
