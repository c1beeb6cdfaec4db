-- A set of places of a network that is read and keeps the rules, and one more place: its upstream breakers and weights, and the series rule.
use Rattle.std.specs.Prelude.{ℕ, ◌+◌, ◌≤◌, ◌<◌, ◌≡◌, Bool, ◌↔◌}
use Rattle.std.proofs.Math.Path.{ap}
use Rattle.std.proofs.Common.{sym, ◌∙◌, subst}
use Rattle.std.proofs.Math.Bool.{false}
use mathlib.Core.List.{List, [], ◌∷◌, ◌++◌}
use Rattle.model.specs.Network.{Network}
use Rattle.model.specs.Paths.{End, is_open}
use Rattle.model.specs.Rules.{series_broken}
use Rattle.model.specs.Outage.{path_to_hv}
use Rattle.model.specs.Sets.{with_breakers}
use Rattle.graphs.specs.Sum.{on}
use Rattle.graphs.specs.Tree.{count_of}
use Rattle.savings.specs.First.{this}
use Rattle.savings.specs.Breakers.{end_at, Valid, valid-append}
use Rattle.savings.specs.Totals.{breakers_with}
use Rattle.theory.specs.Reading.{Read}
use Rattle.theory.specs.Radial.{Rules}
use Rattle.theory.specs.Behind.{vertices}
use Rattle.sets.specs.Ways.{upstream, upstream-with}
use Rattle.sets.specs.Weights.{weight, weight-with}
use Rattle.sets.specs.InSeries.{series-with}
use Rattle.sets.specs.Onward.{onward, way-onward, behind-end}
use Rattle.sets.specs.Sets.{weight_at, upstream_at, under_at, in_series_at, no-breaker, breakers-one, line-ways, vertex-ways, series-set, route, load, lines}

module _ (N : Network) (d : Read N) (r : Rules N) where
  -- one more place, on an end that has no breaker yet
  module _ (S : List ℕ) (v : Valid N S) (q : ℕ) (c : is_open N (end_at N q) ≡ false) (f : breakers_with N S (end_at N q) ≡ false) where
    abbrev e : End
    e = end_at N q

    abbrev B : End → Bool
    B = breakers_with N S

    -- the breaker upstream of an end: the new one, where the end is under it
    pub set-upstream : (p : End) → is_open N p ≡ false → upstream_at N (S ++ (q ∷ [])) p ≡ this (under_at N S p e) e (upstream_at N S p)
    set-upstream p o = ap (λ C. upstream (onward N) C p) (breakers-one N S q) ∙ upstream-with (onward N) B p e (no-breaker N S v) f (way-onward N d r p o)

    -- the weight of an end: less that of the place, where the place is under it
    pub set-weight : (p : End) → B p ≡ false → weight_at N (S ++ (q ∷ [])) p + on (under_at N S e p) (weight_at N S e) ≡ weight_at N S p
    set-weight p g =
        ap (λ C. weight (route N) (load N) (lines N) C p + on (under_at N S e p) (weight_at N S e)) (breakers-one N S q)
        ∙ weight-with (route N) (load N) (onward N) B e (no-breaker N S v) f p g (way-onward N d r e c) (lines N) (line-ways N d r)

    -- the series rule: it held, and fewer than `series` are in series with the place
    pub set-series : (series_broken (with_breakers N (S ++ (q ∷ []))) ≡ false) ↔ ((series_broken (with_breakers N S) ≡ false) × (in_series_at N S e < N.head.series))
    set-series =
        let old = series-set N d r S v in
        let new = series-set N d r (S ++ (q ∷ [])) (valid-append N S (q ∷ []) v (c, tt)) in
        let both = series-with (path_to_hv N) (onward N) (vertices N) (vertex-ways N d r) B e f N.head.series (behind-end N d r e c) in
        let one = breakers-one N S q in (
          λ h. let x = both.0 (λ u m. subst (λ C. count_of C (path_to_hv N u) ≤ N.head.series) one (new.0 h u m)) in (old.1 x.0, x.1),
          λ h. new.1 (λ u m. subst (λ C. count_of C (path_to_hv N u) ≤ N.head.series) (sym one) (both.1 (old.0 h.0, h.1) u m)),
        )
