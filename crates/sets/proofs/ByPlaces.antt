-- The series rule of every set of places of an accepted file, by its places: one after another, each with those before it.
use Prim.Native.Nat.{ℕ}
use Rattle.std.specs.Prelude.{◌≡◌, refl, Bool, true, false, ◌↔◌}
use Rattle.std.proofs.Common.{sym, ◌∙◌, true≢false}
use Rattle.std.proofs.Math.Path.{ap}
use mathlib.Core.List.{List, [], ◌∷◌, ◌++◌, append_assoc, append-nil, Sublistᴰ}
use Rattle.model.specs.Network.{Network}
use Rattle.model.specs.Rules.{series_broken}
use Rattle.model.specs.Sets.{place_numbers, with_breakers}
use Rattle.savings.specs.Breakers.{Valid, valid-append}
use Rattle.savings.specs.Allowed.{series-prefix}
use Rattle.theory.specs.Best.{Accepted}
use Rattle.sets.specs.ByPlaces.{FewInSeries, Free, free-set}
use Rattle.sets.proofs.Sets.{set-series}

-- what is not there with more is not there with less
kept : (x y : Bool) → (x ≡ true → y ≡ true) → y ≡ false → x ≡ false
kept true y f k = absurd (true≢false (sym (f refl) ∙ k))
kept false y f k = refl

module _ (N : Network) (a : Accepted N) where
  free-valid : (before S : List ℕ) → Free N before S → Valid N S
  free-valid before [] f = tt
  free-valid before (q ∷ later) f = (f.0, free-valid (before ++ (q ∷ [])) later f.2)

  series-behind : (before S : List ℕ) → Valid N before → Free N before S → series_broken (with_breakers N before) ≡ false
      → (series_broken (with_breakers N (before ++ S)) ≡ false) ↔ FewInSeries N before S
  series-behind before [] v f h = (λ _. tt, λ _. ap (λ T. series_broken (with_breakers N T)) (append-nil before) ∙ h)
  series-behind before (q ∷ later) v f h =
      let next : List ℕ = before ++ (q ∷ []) in
      let w : Valid N next = valid-append N before (q ∷ []) v (f.0, tt) in
      let one = set-series N a.read a.rules before v q f.0 f.1 in
      let rest : series_broken (with_breakers N next) ≡ false → (series_broken (with_breakers N (next ++ later)) ≡ false) ↔ FewInSeries N next later
      = λ m. series-behind next later w f.2 m in
      let same : series_broken (with_breakers N (next ++ later)) ≡ series_broken (with_breakers N (before ++ (q ∷ later)))
      = ap (λ T. series_broken (with_breakers N T)) (append_assoc before (q ∷ []) later) in (
        λ k. let m = kept (series_broken (with_breakers N next)) (series_broken (with_breakers N (next ++ later))) (series-prefix N next later (valid-append N next later w (free-valid next later f.2))) (same ∙ k) in
            ((one.0 m).1, (rest m).0 (same ∙ k)),
        λ k. sym same ∙ (rest (one.1 (h, k.0))).1 k.1,
      )

  -- the series rule with a set of places: fewer than `series` breakers are in series with each, when it gets its own
  pub series-by-places : (S : List ℕ) → Sublistᴰ S (place_numbers N) → (series_broken (with_breakers N S) ≡ false) ↔ FewInSeries N [] S
  unfolding with_breakers
  series-by-places S s = series-behind [] S tt (free-set N a s) a.series
