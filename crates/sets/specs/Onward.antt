-- The path onward from an end, in a network that is read and keeps the rules.
use Rattle.std.specs.Prelude.{◌≡◌, refl, Bool, ◌||◌}
use Rattle.std.proofs.Math.Path.{sym, subst}
use Rattle.std.proofs.Common.{ap, ◌∙◌, true≢false}
use Rattle.std.proofs.Math.Bool.{true, false}
use Rattle.std.proofs.Math.Logic.{⊎_elim}
use mathlib.Core.List.{List, [], ◌∷◌}
use Rattle.model.specs.Lists.{any, first_or}
use Rattle.model.specs.Network.{Network}
use Rattle.model.specs.Paths.{Vertex, station, line, End, same_end, is_open, station_at}
use Rattle.model.specs.Outage.{path_to_hv, no_end}
use Rattle.graphs.specs.Tree.{Home, home-tail}
use Rattle.savings.specs.Facts.{or_left, same_end-eq, same_end-refl}
use Rattle.savings.specs.First.{this}
use Rattle.theory.specs.Reading.{Read}
use Rattle.theory.specs.Ends.{any-in, fresh-unused, Joins, out, into, joins-edges, closed-end}
use Rattle.theory.specs.Radial.{Rules, In, Root, joins-in, listed-vertex, station-in}
use Rattle.theory.specs.Forest.{path-home, path-next, end-first}
use Rattle.theory.specs.Behind.{vertices}
use Rattle.sets.specs.Ways.{has, Way, upstream}
use Rattle.sets.specs.InSeries.{some_behind}

-- a path, less its first end if that is e
abbrev less : End → List End → List End
less e [] = []
less e (d ∷ ds) = this (same_end d e) ds (d ∷ ds)

-- the path onward from an end to the HV station: its line's path, less the end itself
unfoldable pub onward : Network → End → List End
onward N e = less e (path_to_hv N (line e.line))

less-way : (up : End → List End) (e : End) (es : List End) → Way up es → Way up (less e es)
less-way up e [] w = tt
less-way up e (d ∷ ds) w = go (same_end d e)
  where
    go : (b : Bool) → Way up (this b ds (d ∷ ds))
    go true = w.2
    go false = w

less-first : (e : End) (es : List End) → less e (e ∷ es) ≡ es
less-first e es = ap (λ b. this b es (e ∷ es)) (same_end-refl e)

less_none : (e : End) (es : List End) → has e es ≡ false → less e es ≡ es
unfolding any
less_none e [] h = refl
less_none e (d ∷ ds) h = go (same_end d e) h
  where
    go : (b : Bool) → (b || has e ds) ≡ false → this b ds (d ∷ ds) ≡ d ∷ ds
    go true h = absurd (true≢false h)
    go false h = refl

less-upstream : (B : End → Bool) (e : End) → B e ≡ false → (es : List End) → first_or no_end B (less e es) ≡ first_or no_end B es
unfolding first_or
less-upstream B e f [] = refl
less-upstream B e f (d ∷ ds) = go (same_end d e) refl
  where
    go : (b : Bool) → same_end d e ≡ b → first_or no_end B (this b ds (d ∷ ds)) ≡ first_or no_end B (d ∷ ds)
    go true h = sym (ap (λ b. this b d (first_or no_end B ds)) (ap B (same_end-eq d e h) ∙ f))
    go false h = refl

-- by how the line's path begins
pub onward-first : (N : Network) (e d : End) (ds : List End) → d ∷ ds ≡ path_to_hv N (line e.line) → onward N e ≡ this (same_end d e) ds (d ∷ ds)
unfolding onward
onward-first N e d ds p = ap (less e) (sym p)

-- the breaker upstream of an end that has none is the first on its line's path
pub upstream-line : (N : Network) (B : End → Bool) (e : End) → B e ≡ false → upstream (onward N) B e ≡ first_or no_end B (path_to_hv N (line e.line))
unfolding onward
upstream-line N B e f = less-upstream B e f (path_to_hv N (line e.line))

module _ (N : Network) (d : Read N) (r : Rules N) where
  -- each path to the HV station goes on from each of its ends as `onward` says
  way-within : (es : List End) (v : Vertex) → In N v → path_to_hv N v ≡ es → Way (onward N) es
  unfolding onward
  way-within [] v i p = tt
  way-within (e ∷ es) v i p =
      let h = subst (Home (Joins N) (Root N) v) p (path-home N d r v i) in
      let t = home-tail h in
      let n : has e es ≡ false = fresh-unused e es h.trail.once.0 in
      let k = path-next N d r v t.0 e es i p t.1 in
      (goes t.0 t.1 n k, n, way-within es t.0 (joins-in N d e t.0 v ((joins-edges N).turn t.1)) k)
    where
      goes : (w : Vertex) → Joins N e v w → has e es ≡ false → path_to_hv N w ≡ es → es ≡ less e (path_to_hv N (line e.line))
      goes w (out c a b) n k = sym (ap (less e) (ap (path_to_hv N) (sym a) ∙ p) ∙ less-first e es)
      goes w (into c a b) n k = sym (ap (less e) (ap (path_to_hv N) (sym b) ∙ k) ∙ less_none e es n)

  pub way : (v : Vertex) → In N v → Way (onward N) (path_to_hv N v)
  way v i = way-within (path_to_hv N v) v i refl

  pub way-onward : (e : End) → is_open N e ≡ false → Way (onward N) (onward N e)
  unfolding onward
  way-onward e c = let x = closed-end N e c in less-way (onward N) e (path_to_hv N (line e.line)) (way (line e.line) (x.0, x.1))

  -- some station or line lies behind each closed end
  pub behind-end : (e : End) → is_open N e ≡ false → some_behind (path_to_hv N) (vertices N) e ≡ true
  unfolding any
  behind-end e c =
      let x = closed-end N e c in
      ⊎_elim (λ p. at (line e.line) (x.0, x.1) (path_to_hv N (station (station_at N e))) p) (λ p. at (station (station_at N e)) (station-in N d e x.0 x.1) (path_to_hv N (line e.line)) p) (end-first N d r e c)
    where
      at : (v : Vertex) → In N v → (es : List End) → path_to_hv N v ≡ e ∷ es → some_behind (path_to_hv N) (vertices N) e ≡ true
      at v i es p = any-in (λ u. has e (path_to_hv N u)) v (vertices N) (listed-vertex N d v i) (ap (has e) p ∙ or_left (same_end e e) (has e es) (same_end-refl e))
