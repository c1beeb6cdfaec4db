-- A set of places of a network that is read and keeps the rules, and one more place: its total, upstream breakers, weights and breakers in series.
use Rattle.std.specs.Prelude.{ℕ, ◌+◌, ◌*◌, ◌≤◌, max, ◌≡◌, Bool, ◌||◌, ◌≢◌, ◌↔◌, length}
use Rattle.std.proofs.Math.Path.{refl, ap, fun_ext}
use Rattle.std.proofs.Common.{sym, ◌∙◌, subst, true≢false, arith}
use Rattle.std.proofs.Math.Bool.{true, false, or-false}
use mathlib.Core.List.{List, [], ◌∷◌, ◌++◌, Memᴰ}
use Rattle.model.specs.Lists.{any, numbers, numbered}
use Rattle.model.specs.Network.{Network, no_line, state_at}
use Rattle.model.specs.Paths.{Vertex, station, line, End, same_end, state, is_open}
use Rattle.model.specs.Rules.{breakers_on, series_broken}
use Rattle.model.specs.Outage.{path_to_hv, no_end, customers_behind}
use Rattle.model.specs.Sets.{with_breakers, set_total}
use Rattle.graphs.specs.Tree.{count_of}
use Rattle.savings.specs.Facts.{same_end-eq}
use Rattle.savings.specs.First.{this}
use Rattle.savings.specs.Shape.{Same, path_to_hv-same}
use Rattle.savings.specs.Breakers.{end_at, Valid, valid-append, with_breakers-same, with_breakers-breaker}
use Rattle.savings.specs.Totals.{total_with, breakers_with, set_total-is, breakers_with-append}
use Rattle.theory.specs.Reading.{Read}
use Rattle.theory.specs.Ends.{numbers-in}
use Rattle.theory.specs.Radial.{Rules, In, listed-vertex}
use Rattle.theory.specs.Above.{breakers-count, series-above}
use Rattle.theory.specs.Gathering.{sum-map-over}
use Rattle.theory.specs.Behind.{vertices, listed_in}
use Rattle.theory.specs.With.{with_read, with-rules}
use Rattle.sets.specs.Ways.{has, with, Way, upstream, under}
use Rattle.sets.specs.Weights.{weight, total-with}
use Rattle.sets.specs.InSeries.{in-series, in-series-with}
use Rattle.sets.specs.Onward.{onward, way, behind-end}

module _ (N : Network) where
  -- the path and the weight of a line
  abbrev pub route : ℕ → List End
  route l = path_to_hv N (line l)

  abbrev pub load : ℕ → ℕ
  load l = (numbered no_line N.lines l).weight

  abbrev pub lines : List ℕ
  lines = numbers 1 (length N.lines)

  -- the network with a set of places: its breakers, and by them the weight of an end, the breaker upstream of it and the most breakers in series with it
  abbrev pub weight_at : List ℕ → End → ℕ
  weight_at S e = weight route load lines (breakers_with N S) e

  abbrev pub upstream_at : List ℕ → End → End
  upstream_at S e = upstream (onward N) (breakers_with N S) e

  abbrev pub under_at : List ℕ → End → End → Bool
  under_at S p q = under (onward N) (breakers_with N S) p q

  abbrev pub in_series_at : List ℕ → End → ℕ
  in_series_at S e = in-series (path_to_hv N) (vertices N) (breakers_with N S) e

  -- the end that is not there has no breaker
  pub no-breaker : (S : List ℕ) → Valid N S → breakers_with N S no_end ≡ false
  unfolding state state_at numbered any
  no-breaker [] v = refl
  no-breaker (p ∷ S) v = go (same_end no_end (end_at N p)) refl (no-breaker S v.1)
    where
      go : (b : Bool) → same_end no_end (end_at N p) ≡ b → any (λ p. same_end no_end (end_at N p)) S ≡ false → (b || any (λ p. same_end no_end (end_at N p)) S) ≡ false
      go true h ih = absurd (true≢false (ap (λ x. is_open N x) (same_end-eq no_end (end_at N p) h) ∙ v.0))
      go false h ih = ih

  -- the breakers of a set with one more place
  pub breakers-one : (S : List ℕ) (q : ℕ) → breakers_with N (S ++ (q ∷ [])) ≡ with (breakers_with N S) (end_at N q)
  unfolding any
  breakers-one S q = fun_ext (λ e. breakers_with-append N S (q ∷ []) e ∙ ap (λ b. breakers_with N S e || b) (or-false (same_end e (end_at N q))))

module _ (N : Network) (d : Read N) (r : Rules N) where
  pub line-ways : (l : ℕ) → Memᴰ l (lines N) → Way (onward N) (route N l)
  line-ways l m = let i = numbers-in l 1 (length N.lines) m in way N d r (line l) (i.0, omega (arith, i.1))

  pub vertex-ways : (u : Vertex) → Memᴰ u (vertices N) → Way (onward N) (path_to_hv N u)
  vertex-ways u m = way N d r u (listed_in N u m)

  -- the series rule with a set's breakers, by the paths to the HV station
  pub series-set : (S : List ℕ) → Valid N S
      → (series_broken (with_breakers N S) ≡ false) ↔ ((v : Vertex) → Memᴰ v (vertices N) → count_of (breakers_with N S) (path_to_hv N v) ≤ N.head.series)
  series-set S v = (
    λ h u m. omega (arith, above.0 h u (within.1 u (listed_in N u m)), same_count u),
    λ h. above.1 (λ u i. omega (arith, h u (listed-vertex N d u (within.0 u i)), same_count u)),
  )
    where
      M : Network
      M = with_breakers N S

      same : Same M N
      same = with_breakers-same S N v

      above : (series_broken M ≡ false) ↔ ((u : Vertex) → In M u → breakers_on M (path_to_hv M u) ≤ M.head.series)
      above = series-above M (with_read S N d) (with-rules N d r S v)

      same_count : (u : Vertex) → (breakers_on M (path_to_hv M u) ≡ count_of (breakers_with N S) (path_to_hv N u)) × (M.head.series ≡ N.head.series)
      same_count u = (breakers-count M (path_to_hv M u) ∙ (λ i. count_of (λ e. with_breakers-breaker S N v e i) (path_to_hv-same M N same u i)), λ i. (same.head i).series)

      within : ((u : Vertex) → In M u → In N u) × ((u : Vertex) → In N u → In M u)
      within = (there, back)
        where
          there : (u : Vertex) → In M u → In N u
          there (station s) i = (i.0, subst (λ ss. s ≤ length ss) same.stations i.1)
          there (line l) i = (i.0, omega (arith, i.1, same.line_count))

          back : (u : Vertex) → In N u → In M u
          back (station s) i = (i.0, subst (λ ss. s ≤ length ss) (sym same.stations) i.1)
          back (line l) i = (i.0, omega (arith, i.1, same.line_count))

  -- one more place, on an end that has no breaker yet
  module _ (S : List ℕ) (v : Valid N S) (q : ℕ) (c : is_open N (end_at N q) ≡ false) (f : breakers_with N S (end_at N q) ≡ false) where
    abbrev e : End
    e = end_at N q

    abbrev B : End → Bool
    B = breakers_with N S

    -- the total falls by the place's weight times the customers that its breaker spares
    pub set-total : set_total N (S ++ (q ∷ [])) + weight_at N S e * customers_behind N (upstream_at N S e) ≡ set_total N S + weight_at N S e * customers_behind N e
    set-total = omega (
      arith,
      set_total-is N S v ∙ sum-map-over _ (lines N),
      set_total-is N (S ++ (q ∷ [])) (valid-append N S (q ∷ []) v (c, tt)) ∙ ap (total_with N) (breakers-one N S q) ∙ sum-map-over _ (lines N),
      total-with (route N) (load N) (onward N) B e (no-breaker N S v) f (λ d. customers_behind N d) (lines N) line-ways,
    )

    -- the most breakers in series with an end
    pub set-in-series : (p : End) → is_open N p ≡ false → p ≢ e
        → in_series_at N (S ++ (q ∷ [])) p ≡ this (has e (onward N p)) (in_series_at N S p + 1) (this (has p (onward N e)) (max (in_series_at N S p) (in_series_at N S e + 1)) (in_series_at N S p))
    set-in-series p o n =
        ap (λ C. in-series (path_to_hv N) (vertices N) C p) (breakers-one N S q)
        ∙ in-series-with (path_to_hv N) (onward N) (vertices N) vertex-ways B e f p n (behind-end N d r p o) (behind-end N d r e c)
