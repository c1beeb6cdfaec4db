-- One more place of the current set: its cost, its hours, and whether the set with it is allowed.
use Prim.Native.Nat.{ℕ, ◌+◌, ◌≤◌, ◌<◌}
use mathlib.Core.Path.{◌≡◌, refl, sym, ap, ◌∙◌, subst}
use mathlib.Core.Bool.{Bool, true, false, not, ◌&&◌}
use mathlib.Core.List.{List, [], ◌∷◌, ◌++◌, map}
use native.Mathlib.Omega.{arith}
use lib.Dec.{leb}
use lib.ListN.{length, length-append}
use borrow.Author.Tests.{le-leb}
use Rattle.std.proofs.Math.Bool.{and-true, and-false}
use Rattle.std.specs.Prelude.{Option}
use Rattle.model.specs.Lists.{sum}
use Rattle.model.specs.Network.{Network}
use Rattle.model.specs.Rules.{series_broken}
use Rattle.model.specs.Sets.{place_at, with_breakers, allowed, set_total}
use Rattle.savings.specs.Allowed.{sum-append}
use Rattle.savings.specs.Breakers.{end_at}
use Rattle.theory.specs.Reading.{Read}
use Rattle.sets.specs.Sets.{in_series_at}
use Rattle.sets.proofs.Sets.{set-series}
use Rattle.outage.specs.Held.{HoldsCustomers}
use Rattle.prospects.specs.declared.Tables.{Tables}
use Rattle.prospects.specs.declared.Choice.{Choice}
use Rattle.prospects.specs.Chosen.{Later, LaterIn}
use Rattle.search.specs.Walking.{Trying, TryingIn, Chooses}
use Rattle.relations.specs.declared.Relations.{Relations}
use Rattle.starts.specs.declared.Outlook.{Outlook}
use Rattle.search.specs.declared.Current.{Current}
use Rattle.search.specs.declared.Course.{Course}
use Rattle.prospects.proofs.Upstream.{end-closed}
use Rattle.prospects.proofs.Outlooks.{chosen-valid, later_of}
use Rattle.prospects.proofs.Falling.{free}

one_more : (f : ℕ → ℕ) (S : List ℕ) (q : ℕ) → sum (map f (S ++ (q ∷ []))) ≡ sum (map f S) + f q
unfolding sum
one_more f S q = omega (arith, sum-append f S (q ∷ []))

module _ {N : Network} {relations : Relations} {outlook : Outlook} {S : List ℕ} {at : Current} {pending : Option ℕ} {q : ℕ} (x : Trying N relations outlook S at pending q) where
  abbrev T : List ℕ
  T = S ++ (q ∷ [])

  read : Read N
  read = x.standing.chosen.accepted.read

  pub later : Later N relations outlook S pending q
  later = later_of x.standing.chosen x.standing.is-pending q x.low x.high

  pub cost-with : {cost : ℕ} → cost ≡ at.cost + (place_at N q).cost → cost ≡ sum (map (λ p. (place_at N p).cost) T)
  cost-with c = omega (arith, c, x.standing.cost, one_more (λ p. (place_at N p).cost) S q)

  pub hours-with : {hours : ℕ} → hours ≡ at.hours + (place_at N q).hours → hours ≡ sum (map (λ p. (place_at N p).hours) T)
  hours-with c = omega (arith, c, x.standing.hours, one_more (λ p. (place_at N p).hours) S q)

  module _ {cost hours : ℕ} (c : cost ≡ at.cost + (place_at N q).cost) (h : hours ≡ at.hours + (place_at N q).hours) where
    abbrev affordable : Bool
    affordable = leb cost N.head.money && leb hours N.head.hours

    allowed-is : allowed N T ≡ (affordable && not (series_broken (with_breakers N T)))
    unfolding allowed
    allowed-is =
        let few : leb (length T) N.head.adds ≡ true
        = le-leb (length T) N.head.adds (omega (arith, x.few, length-append S (q ∷ []))) in
        λ i. few i && leb (sym (cost-with c) i) N.head.money && leb (sym (hours-with h) i) N.head.hours && not (series_broken (with_breakers N T))

  -- the series rule
  module _ {in-series : ℕ} (w : in-series ≡ in_series_at N S (end_at N q)) where
    both_ways : (series_broken (with_breakers N T) ≡ false → in-series < N.head.series) × (in-series < N.head.series → series_broken (with_breakers N T) ≡ false)
    both_ways =
        let k = x.standing.chosen in
        let s = set-series N read k.accepted.rules S (chosen-valid k) q (end-closed N k.accepted q (omega (arith, x.low)) x.high) (free later) in
        (λ b. omega (arith, (s.0 b).1, w), λ l. s.1 (k.series, omega (arith, l, w)))

    -- it is broken
    pub too_many : N.head.series ≤ in-series → false ≡ allowed N T
    too_many l = go (series_broken (with_breakers N T)) refl
      where
        means : Bool
        means = leb (at.cost + (place_at N q).cost) N.head.money && leb (at.hours + (place_at N q).hours) N.head.hours

        go : (b : Bool) → series_broken (with_breakers N T) ≡ b → false ≡ allowed N T
        go true b = sym (allowed-is refl refl ∙ ap (λ b. means && not b) b ∙ and-false means)
        go false b = absurd (omega (arith, both_ways.0 b))

    -- it is kept, and the money and the hours decide
    pub few-enough : {cost hours : ℕ} (c : cost ≡ at.cost + (place_at N q).cost) (h : hours ≡ at.hours + (place_at N q).hours) → in-series < N.head.series
        → (leb cost N.head.money && leb hours N.head.hours) ≡ allowed N T
    few-enough c h l = sym (allowed-is c h ∙ ap (λ b. affordable c h && not b) (both_ways.1 l) ∙ and-true (affordable c h))

-- the choice from which a course's set is read
module _ {t : Tables} {course : Course} {pending : Option ℕ} {c : Choice} (h : Chooses t course pending c) {at : Current} {place : ℕ} (x : TryingIn t course at pending place) where
  pub later-in : LaterIn c place
  later-in = rw (h.tables, h.outlook, h.members, h.is-pending) (later x)

  pub in-series-is : {n : ℕ} → n ≡ in_series_at c.tables.net.now c.members.now (end_at c.tables.net.now place) → n ≡ in_series_at t.net.now course.members.items (end_at t.net.now place)
  in-series-is e = e ∙ (λ i. in_series_at (h.tables i).net.now (h.members i) (end_at (h.tables i).net.now place))

  pub behind-in : HoldsCustomers t.net.now t.behind.now → HoldsCustomers c.tables.net.now c.tables.behind.now
  behind-in b = subst (λ (u : Tables). HoldsCustomers u.net.now u.behind.now) (sym h.tables) b

  pub falls-is : (n : ℕ) → n + set_total c.tables.net.now (c.members.now ++ (place ∷ [])) ≡ set_total c.tables.net.now c.members.now → n + set_total t.net.now (course.members.items ++ (place ∷ [])) ≡ set_total t.net.now course.members.items
  falls-is n e = (λ i. n + set_total (sym h.tables i).net.now (sym h.members i ++ (place ∷ []))) ∙ e ∙ (λ i. set_total (h.tables i).net.now (h.members i))
