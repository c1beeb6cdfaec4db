-- What the program reads off a table with the end and the vertex above each vertex: the path to the HV station, and with it
-- the series rule.
use Rattle.std.specs.Prelude.{ℕ, suc, ◌+◌, ◌≤◌, ◌≡◌, refl, Bool, true, false, ◌↔◌, length}
use Rattle.std.proofs.Math.Path.{sym}
use Rattle.std.proofs.Common.{ap, ◌∙◌, subst, true≢false, arith}
use mathlib.Core.List.{List, [], ◌∷◌, reverse}
use Rattle.model.specs.Lists.{keep}
use Rattle.model.specs.Network.{Network}
use Rattle.model.specs.Paths.{Vertex, station, line, End, is_breaker, is_hv, at_hv}
use Rattle.model.specs.Rules.{breakers_on, series_broken}
use Rattle.model.specs.Outage.{path_to_hv}
use Rattle.graphs.specs.Graph.{Walk, stop, step, Trail}
use Rattle.graphs.specs.Sum.{on}
use Rattle.graphs.specs.Tree.{count_of, back_count, trail-back}
use Rattle.graphs.specs.Climb.{Table, climb, climb-home}
use Rattle.theory.specs.Reading.{Read}
use Rattle.theory.specs.Ends.{Joins, joins-edges}
use Rattle.theory.specs.Series.{series-rule}
use Rattle.theory.specs.Radial.{Rules, In, Root, joins-in, root_in}
use Rattle.theory.specs.Forest.{path-home, path-only}

-- the breakers on a path, counted
pub breakers-count : (N : Network) (es : List End) → breakers_on N es ≡ count_of (λ e. is_breaker N e) es
unfolding breakers_on keep
breakers-count N [] = refl
breakers-count N (e ∷ es) = go (is_breaker N e) (keep (λ e. is_breaker N e) es) (breakers-count N es)
  where
    go : (b : Bool) (ks : List End) → length ks ≡ count_of (λ e. is_breaker N e) es
        → length {A = End} (elim b as (λ x. List End) [ true ↦ e ∷ ks | false ↦ ks ]) ≡ on b 1 + count_of (λ e. is_breaker N e) es
    go true ks h = omega arith
    go false ks h = omega arith

module _ (N : Network) (d : Read N) (r : Rules N) where
  -- following a table up from a vertex is its path to the HV station
  pub table-path : {level : Vertex → ℕ} {edge : Vertex → End} {above : Vertex → Vertex} → Table (Joins N) (Root N) (In N) level edge above
      → (k : ℕ) (v : Vertex) → In N v → level v ≡ suc k → climb edge above k v ≡ path_to_hv N v
  table-path t k v i e = path-only N d r i (climb-home (joins-edges N) t k v i e)

  -- where a path from a vertex of the file leads
  walk-in : {v u : Vertex} {es : List End} → In N u → Walk (Joins N) v u es → In N v
  walk-in i (stop p) = subst (In N) p i
  walk-in i (step {u} {i = e} {w} j k) = walk-in (joins-in N d e w u ((joins-edges N).turn j)) k

  -- The series rule holds where no path to an HV station passes too many breakers: a path from an HV station is one to it, backwards.
  pub series-above : (series_broken N ≡ false) ↔ ((v : Vertex) → In N v → breakers_on N (path_to_hv N v) ≤ N.head.series)
  unfolding at_hv
  series-above = (there, λ h. (series-rule N).1 (back h))
    where
      counted : (es : List End) → breakers_on N (reverse es) ≡ breakers_on N es
      counted es = breakers-count N (reverse es) ∙ back_count (λ e. is_breaker N e) es ∙ sym (breakers-count N es)

      there : series_broken N ≡ false → (v : Vertex) → In N v → breakers_on N (path_to_hv N v) ≤ N.head.series
      there s v i = from (path-home N d r v i).root refl
        where
          from : (w : Vertex) → (path-home N d r v i).root ≡ w → breakers_on N (path_to_hv N v) ≤ N.head.series
          from (station h) p =
              let b = trail-back (joins-edges N) (path-home N d r v i).trail in
              omega (
                arith,
                counted (path_to_hv N v),
                (series-rule N).0 s h v (reverse (path_to_hv N v))
                    (ap (λ x. at_hv N x) (sym p) ∙ (path-home N d r v i).is-root) (subst (λ x. Trail (Joins N) x (reverse (path_to_hv N v)) v) p b),
              )
          from (line l) p = absurd (true≢false (sym (path-home N d r v i).is-root ∙ ap (λ x. at_hv N x) p))

      back : ((v : Vertex) → In N v → breakers_on N (path_to_hv N v) ≤ N.head.series) → (h : ℕ) (v : Vertex) (es : List End) → is_hv N h ≡ true → Trail (Joins N) (station h) es v
          → breakers_on N es ≤ N.head.series
      back f h v es hv t =
          let i = walk-in (root_in N d (station h) hv) t.walk in
          let p = path-only N d r i (record { root = station h; is-root = hv; trail = trail-back (joins-edges N) t }) in
          omega (arith, f v i, ap (breakers_on N) p, counted es)
