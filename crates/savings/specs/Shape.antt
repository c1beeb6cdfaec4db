-- Two networks that differ in their breakers alone have the same paths, and the same customers behind each end.
use Prim.Native.Nat.{ℕ, zero, suc}
use Rattle.std.proofs.Math.Bool.{not}
use Rattle.std.specs.Prelude.{◌&&◌, ◌||◌, ◌≡◌, length}
use mathlib.Core.List.{List, [], ◌∷◌, map, flat_map}
use Rattle.std.proofs.Math.Path.{refl}
use Rattle.std.proofs.Common.{◌∙◌}
use Rattle.std.proofs.Math.Dec.{eqb}
use Rattle.model.specs.Lists.{any, keep, sum, numbers, first_or, numbered}
use Rattle.model.specs.Network.{Network, no_line, no_place}
use Rattle.model.specs.Paths.{Vertex, station, line, same_vertex, End, same_end, end1, end2, station_numbers, line_numbers, is_open, station_at, closed_ends, is_at, across, paths_from, paths, target, no_station, is_hv, customers_of, at_hv}
use Rattle.model.specs.Outage.{path_to_hv, passes, customers_behind}
use Rattle.model.specs.Sets.{place_at}

-- two networks that differ in their breakers alone
pub record Same (M N : Network) : Type 0 where
  pub head : M.head ≡ N.head
  pub stations : M.stations ≡ N.stations
  pub places : M.places ≡ N.places
  pub line_count : length M.lines ≡ length N.lines
  pub weight : (l : ℕ) → (numbered no_line M.lines l).weight ≡ (numbered no_line N.lines l).weight
  pub opens : (e : End) → is_open M e ≡ is_open N e
  pub station_of : (e : End) → station_at M e ≡ station_at N e

pub same_refl : (N : Network) → Same N N
same_refl N = record { head = refl; stations = refl; places = refl; line_count = refl; weight = λ l. refl; opens = λ e. refl; station_of = λ e. refl }

pub same-trans : (L M N : Network) → Same L M → Same M N → Same L N
same-trans L M N a b = record {
  head = a.head ∙ b.head;
  stations = a.stations ∙ b.stations;
  places = a.places ∙ b.places;
  line_count = a.line_count ∙ b.line_count;
  weight = λ l. a.weight l ∙ b.weight l;
  opens = λ e. a.opens e ∙ b.opens e;
  station_of = λ e. a.station_of e ∙ b.station_of e;
}

module _ (M N : Network) (s : Same M N) where
  pub closed_ends-same : closed_ends M ≡ closed_ends N
  unfolding closed_ends line_numbers
  closed_ends-same = λ i. keep (λ e. not (s.opens e i)) (flat_map (λ l. end1 l ∷ end2 l ∷ []) (numbers 1 (s.line_count i)))

  pub is_at-same : (v : Vertex) (e : End) → is_at M v e ≡ is_at N v e
  unfolding is_at
  is_at-same v e = λ i. same_vertex v (line e.line) || same_vertex v (station (s.station_of e i))

  pub across-same : (v : Vertex) (e : End) → across M v e ≡ across N v e
  unfolding across
  across-same (station t) e = refl
  across-same (line l) e = λ i. station (s.station_of e i)

  paths_from-same : (ends : List End) (most : ℕ) (used : List End) (v : Vertex) → paths_from M ends most used v ≡ paths_from N ends most used v
  unfolding paths_from
  paths_from-same ends zero used v = refl
  paths_from-same ends (suc most) used v = λ i.
      [] ∷ flat_map (λ e. map (λ es. e ∷ es) (paths_from-same ends most (e ∷ used) (across-same v e i) i))
      (keep (λ e. is_at-same v e i && not (any (λ d. same_end d e) used)) ends)

  pub paths-same : (v : Vertex) → paths M v ≡ paths N v
  unfolding paths
  paths-same v = λ i. paths_from-same (closed_ends-same i) (length (closed_ends-same i)) [] v i

  pub target-same : (v : Vertex) (es : List End) → target M v es ≡ target N v es
  unfolding target
  target-same v [] = refl
  target-same v (e ∷ es) = λ i. target-same (across-same v e i) es i

  pub is_hv-same : (t : ℕ) → is_hv M t ≡ is_hv N t
  unfolding is_hv
  is_hv-same t = λ i. eqb (numbered no_station (s.stations i) t).role 1

  pub at_hv-same : (v : Vertex) → at_hv M v ≡ at_hv N v
  unfolding at_hv
  at_hv-same (station t) = is_hv-same t
  at_hv-same (line l) = refl

  pub path_to_hv-same : (v : Vertex) → path_to_hv M v ≡ path_to_hv N v
  unfolding path_to_hv
  path_to_hv-same v = λ i. first_or [] (λ es. at_hv-same (target-same v es i) i) (paths-same v i)

  passes_same : (e : End) (t : ℕ) → passes M e t ≡ passes N e t
  unfolding passes
  passes_same e t = λ i. any (λ d. same_end d e) (path_to_hv-same (station t) i)

  customers_of-same : (t : ℕ) → customers_of M t ≡ customers_of N t
  unfolding customers_of
  customers_of-same t = λ i. (numbered no_station (s.stations i) t).customers

  pub station_numbers-same : station_numbers M ≡ station_numbers N
  unfolding station_numbers
  station_numbers-same = λ i. numbers 1 (length (s.stations i))

  pub customers_behind-same : (e : End) → customers_behind M e ≡ customers_behind N e
  unfolding customers_behind
  customers_behind-same e = λ i. sum (map (λ t. customers_of-same t i) (keep (λ t. passes_same e t i) (station_numbers-same i)))

  pub place_at-same : (p : ℕ) → place_at M p ≡ place_at N p
  unfolding place_at
  place_at-same p = λ i. numbered no_place (s.places i) p
