-- A network with breakers added at places: what was read of it and the rules 4 to 8 hold still.
use Rattle.std.specs.Prelude.{ℕ, zero, suc, ◌≤◌, ◌<◌, ◌≡◌, Bool, false, ◌&&◌, ◌||◌, eqb, set}
use Rattle.std.proofs.Math.Path.{refl, sym, ap}
use Rattle.std.proofs.Common.{◌∙◌, subst, true≢false, arith, eqb-true, eq-eqb}
use Rattle.std.proofs.Math.Bool.{true, not}
use mathlib.Core.List.{List, [], ◌∷◌, ◌++◌, map}
use Rattle.std.proofs.Math.ListN.{length}
use Rattle.std.proofs.lemmas.Bool.{eqb-false}
use Rattle.model.specs.Lists.{any, numbers, numbered, renumbered}
use Rattle.model.specs.Network.{Network, Line, Place, no_line}
use Rattle.model.specs.Paths.{Vertex, station, line, same_vertex, End, end1, end2, line_numbers, state, is_plain, is_breaker, is_open, station_at, is_hv}
use Rattle.model.specs.Rules.{both_open, plain_at_hv, unprotected, returns_to, some_path_returns, joins_another, some_joined, is_supplied}
use Rattle.model.specs.Sets.{place_at, line_with_breaker, with_breaker, with_breakers}
use Rattle.savings.specs.Facts.{both, or_left}
use Rattle.savings.specs.Shape.{Same, paths-same, target-same, is_hv-same, at_hv-same, station_numbers-same}
use Rattle.savings.specs.Breakers.{Valid, with_breakers-same, with_breakers-breaker}
use Rattle.theory.specs.Reading.{All, Within, LineFits, PlaceFits, Read}
use Rattle.theory.specs.Sizes.{renumbered-length}
use Rattle.theory.specs.Radial.{Rules, numbered-in}
use Rattle.theory.specs.Forest.{neither, state-high}

-- what every element has, every element has when another that has it takes a place
all_set : {A : Type 0} (P : A → Type 0) (xs : List A) (k : ℕ) (x : A) → All P xs → (k < length xs → P x) → All P (set xs k x)
all_set P [] k x a h = tt
all_set P (y ∷ ys) zero x a h = (h (omega arith), a.1)
all_set P (y ∷ ys) (suc k) x a h = (a.0, all_set P ys k x a.1 (λ l. h (omega arith)))

all-renumbered : {A : Type 0} (P : A → Type 0) (xs : List A) (k : ℕ) (x : A) → All P xs → (1 ≤ k → k ≤ length xs → P x) → All P (renumbered xs k x)
unfolding renumbered
all-renumbered P xs zero x a h = a
all-renumbered P xs (suc k) x a h = all_set P xs k x a (λ l. h (omega arith) l)

line-with : (stations side : ℕ) (l : Line) → LineFits stations l → LineFits stations (line_with_breaker side l)
unfolding line_with_breaker
line-with stations side l f = record {
  weight = f.weight;
  station1 = f.station1;
  station2 = f.station2;
  state1 = elim (eqb side 1) as (λ b. Within 0 2 (elim b [ true ↦ 1 | false ↦ l.state1 ])) [ true ↦ record { low = omega arith; high = omega arith } | false ↦ f.state1 ];
  state2 = elim (eqb side 2) as (λ b. Within 0 2 (elim b [ true ↦ 1 | false ↦ l.state2 ])) [ true ↦ record { low = omega arith; high = omega arith } | false ↦ f.state2 ];
}

breaker-read : (N : Network) (p : Place) → Read N → Read (with_breaker N p)
unfolding with_breaker
breaker-read N p d = let new : Line = line_with_breaker p.side (numbered no_line N.lines p.line) in
    let n : length (renumbered N.lines p.line new) ≡ length N.lines = renumbered-length N.lines p.line new in record {
      head = d.head;
      station_count = d.station_count;
      line_count = n ∙ d.line_count;
      place_count = d.place_count;
      stations = d.stations;
      lines = all-renumbered (LineFits (length N.stations)) N.lines p.line new d.lines
          (λ a b. line-with (length N.stations) p.side (numbered no_line N.lines p.line) (numbered-in (LineFits (length N.stations)) N.lines no_line d.lines p.line a b));
      places = subst (λ k. All (PlaceFits k) N.places) (sym n) d.places;
    }

pub with_read : (S : List ℕ) (N : Network) → Read N → Read (with_breakers N S)
unfolding with_breakers
with_read [] N d = d
with_read (p ∷ S) N d = with_read S (with_breaker N (place_at N p)) (breaker-read N (place_at N p) d)

module _ (N : Network) (d : Read N) (r : Rules N) (S : List ℕ) (v : Valid N S) where
  abbrev M : Network
  M = with_breakers N S

  same : Same M N
  same = with_breakers-same S N v

  -- an end that is plain with the breakers was plain before
  plain-before : (e : End) → is_plain M e ≡ true → is_plain N e ≡ true
  plain-before e h = go (is_open N e) refl (is_breaker N e) refl
    where
      z : state M e ≡ 0
      z = eqb-true (state M e) 0 h

      shut : is_open N e ≡ false
      shut = sym (same.opens e) ∙ ap (λ n. eqb n 2) z

      go : (a : Bool) → is_open N e ≡ a → (b : Bool) → is_breaker N e ≡ b → is_plain N e ≡ true
      go true p b q = absurd (true≢false (sym p ∙ shut))
      go false p true q = absurd (true≢false (sym (with_breakers-breaker S N v e ∙ or_left (is_breaker N e) _ q) ∙ ap (λ n. eqb n 1) z))
      go false p false q = eq-eqb (state N e) 0 (omega (arith, state-high N d r e p, eqb-false (state N e) 2 p, eqb-false (state N e) 1 q))

  not_more : (a b : Bool) → (b ≡ true → a ≡ true) → a ≡ false → b ≡ false
  not_more a true h e = absurd (true≢false (sym (h refl) ∙ e))
  not_more a false h e = refl

  plain_at : (e : End) → plain_at_hv N e ≡ false → plain_at_hv M e ≡ false
  unfolding plain_at_hv
  plain_at e h = not_more (is_plain N e && is_hv N (station_at N e)) (is_plain M e && is_hv M (station_at M e)) before h
    where
      before : (is_plain M e && is_hv M (station_at M e)) ≡ true → (is_plain N e && is_hv N (station_at N e)) ≡ true
      before q =
          let t = both (is_plain M e) (is_hv M (station_at M e)) q in
          let hv : is_hv N (station_at N e) ≡ true = ap (is_hv N) (sym (same.station_of e)) ∙ sym (is_hv-same M N same (station_at M e)) ∙ t.1 in
          λ i. plain-before e t.0 i && hv i

  returns-same : (u : Vertex) (es : List End) → returns_to M u es ≡ returns_to N u es
  unfolding returns_to
  returns-same u [] = refl
  returns-same u (e ∷ es) = λ i. same_vertex (target-same M N same u (e ∷ es) i) u

  line_numbers-same : line_numbers M ≡ line_numbers N
  unfolding line_numbers
  line_numbers-same = λ i. numbers 1 (same.line_count i)

  pub with-rules : Rules M
  unfolding both_open unprotected some_path_returns some_joined joins_another is_supplied
  with-rules = record {
    connected = λ l a b. (λ i. same.opens (end1 l) i && same.opens (end2 l) i) ∙ r.connected l a (omega (arith, same.line_count));
    protected = λ l a b.
        let n = neither (plain_at_hv N (end1 l)) (plain_at_hv N (end2 l)) (r.protected l a (omega (arith, same.line_count))) in
        λ i. plain_at (end1 l) n.0 i || plain_at (end2 l) n.1 i;
    unreturned = (λ i. any (λ u. any (λ es. returns-same u es i) (paths-same M N same u i)) (map (λ s. station s) (station_numbers-same M N same i) ++ map (λ l. line l) (line_numbers-same i))) ∙ r.unreturned;
    unjoined = (λ i. any (λ h. is_hv-same M N same h i && any (λ es. at_hv-same M N same (target-same M N same (station h) es i) i && not (same_vertex (target-same M N same (station h) es i) (station h))) (paths-same M N same (station h) i)) (station_numbers-same M N same i)) ∙ r.unjoined;
    supplied = λ s a b. (λ i. any (λ es. at_hv-same M N same (target-same M N same (station s) es i) i) (paths-same M N same (station s) i)) ∙ r.supplied s a (subst (λ ss. s ≤ length ss) same.stations b);
  }
