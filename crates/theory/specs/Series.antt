-- The series rule, and with it what an allowed set is, as statements about every path.
use Prim.Native.Nat.{ℕ, ◌≤◌}
use Rattle.std.specs.Prelude.{◌≡◌, true, false, not, ◌&&◌, ◌↔◌, length, leb}
use Rattle.std.proofs.Math.Path.{refl}
use Rattle.std.proofs.Common.{sym, ◌∙◌, subst, true≢false, arith, leb-true, le-leb, ltb-true, ltb-false}
use Rattle.std.proofs.Math.Bool.{Bool}
use mathlib.Core.List.{List, map, Memᴰ}
use Rattle.std.proofs.Math.Dec.{eqb, ltb}
use Rattle.std.proofs.lemmas.Bool.{not-true}
use Rattle.model.specs.Lists.{any, sum, numbers}
use Rattle.model.specs.Network.{Network, Station}
use Rattle.model.specs.Paths.{Vertex, station, End, station_numbers, paths, no_station, is_hv}
use Rattle.model.specs.Rules.{breakers_on, series_broken}
use Rattle.model.specs.Sets.{place_at, with_breakers, allowed}
use Rattle.graphs.specs.Graph.{Trail}
use Rattle.savings.specs.Facts.{both}
use Rattle.theory.specs.Ends.{any-in, any_out, numbered-there, in-numbers, Joins, walk_target, paths-are}

-- no path from an HV station passes more than `series` breakers
abbrev pub SeriesRule : Network → Type 0
SeriesRule N = (h : ℕ) (v : Vertex) (es : List End) → is_hv N h ≡ true → Trail (Joins N) (station h) es v → breakers_on N es ≤ N.head.series

not-both : (b : Bool) → (b ≡ true → ⊥) → b ≡ false
not-both true f = absurd (f refl)
not-both false f = refl

module _ (N : Network) where
  pub series-rule : (series_broken N ≡ false) ↔ SeriesRule N
  unfolding series_broken station_numbers
  series-rule = (there, back)
    where
      broken : ℕ → Bool
      broken h = is_hv N h && any (λ es. ltb N.head.series (breakers_on N es)) (paths N (station h))

      there : any broken (numbers 1 (length N.stations)) ≡ false → SeriesRule N
      there e h v es hv t = go (ltb N.head.series (breakers_on N es)) refl
        where
          i : (1 ≤ h) × (h ≤ length N.stations)
          i = unfold is_hv in numbered-there (λ (s : Station). eqb s.role 1) N.stations no_station refl h hv

          listed : Memᴰ es (paths N (station h))
          listed = (paths-are N (station h) es).1 (subst (Trail (Joins N) (station h) es) (sym (walk_target N t.walk)) t)

          go : (b : Bool) → ltb N.head.series (breakers_on N es) ≡ b → breakers_on N es ≤ N.head.series
          go true q = absurd (true≢false (sym (any-in broken h _ (in-numbers h 1 (length N.stations) i.0 (omega (arith, i.1)))
              (λ k. hv k && any-in (λ es. ltb N.head.series (breakers_on N es)) es (paths N (station h)) listed q k)) ∙ e))
          go false q = omega (arith, ltb-false N.head.series (breakers_on N es) q)

      back : SeriesRule N → any broken (numbers 1 (length N.stations)) ≡ false
      back s = not-both _ (λ e.
          let x = any_out broken (numbers 1 (length N.stations)) e in
          let b = both (is_hv N x.0) (any (λ es. ltb N.head.series (breakers_on N es)) (paths N (station x.0))) x.2 in
          let y = any_out (λ es. ltb N.head.series (breakers_on N es)) (paths N (station x.0)) b.1 in
          omega (arith, ltb-true N.head.series (breakers_on N y.0) y.2, s x.0 _ y.0 b.0 ((paths-are N (station x.0) y.0).0 y.1)))

-- what an allowed set is
pub record IsAllowed (N : Network) (S : List ℕ) : Type 0 where
  pub adds : length S ≤ N.head.adds
  pub money : sum (map (λ p. (place_at N p).cost) S) ≤ N.head.money
  pub hours : sum (map (λ p. (place_at N p).hours) S) ≤ N.head.hours
  pub series : SeriesRule (with_breakers N S)

pub allowed-means : (N : Network) (S : List ℕ) → (allowed N S ≡ true) ↔ IsAllowed N S
unfolding allowed
allowed-means N S = (
  λ h.
      let a = both _ (not (series_broken (with_breakers N S))) h in
      let b = both _ (leb (sum (map (λ p. (place_at N p).hours) S)) N.head.hours) a.0 in
      let c = both (leb (length S) N.head.adds) (leb (sum (map (λ p. (place_at N p).cost) S)) N.head.money) b.0 in
      record { adds = leb-true _ _ c.0; money = leb-true _ _ c.1; hours = leb-true _ _ b.1; series = (series-rule (with_breakers N S)).0 (not-true _ a.1) },
  λ x i. le-leb _ _ x.adds i && le-leb _ _ x.money i && le-leb _ _ x.hours i && not ((series-rule (with_breakers N S)).1 x.series i),
)
