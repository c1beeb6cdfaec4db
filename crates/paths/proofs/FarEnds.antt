-- The station that a line feeds: what its path meets.
use Prim.Native.Nat.{ℕ, ◌≤◌}
use mathlib.Core.Path.{◌≡◌, ap, ◌∙◌}
use mathlib.Core.Bool.{false}
use mathlib.Core.List.{◌∷◌}
use native.Mathlib.Omega.{arith}
use lib.ListN.{length}
use Rattle.model.specs.Network.{Network}
use Rattle.model.specs.Paths.{station, End, is_open, station_at}
use Rattle.model.specs.Outage.{path_to_hv}
use Rattle.theory.specs.Reading.{Read}
use Rattle.theory.specs.Radial.{Rules}
use Rattle.theory.specs.Behind.{far}
use Rattle.network.specs.There.{LineThere}
use Rattle.network.specs.Found.{found}
use Rattle.tree.specs.Linked.{end_code}
use Rattle.tree.specs.Outwards.{near_end}
use Rattle.tree.specs.Feeding.{FarEnd}
use Rattle.tree.specs.Held.{HoldsNears}
use Rattle.tree.specs.declared.Tree.{Tree}
use Rattle.tree.proofs.Near.{near-end, far-first}
use Rattle.sets.specs.Stops.{first_place}
use Rattle.sets.specs.Sets.{route}
use Rattle.sets.specs.Apart.{place_ends}
use Rattle.marks.specs.Held.{place_on, mark_on, HoldsPlaces}
use Rattle.marks.specs.declared.Marks.{Marks}
use Rattle.marks.proofs.Marking.{end-of-code}
use Rattle.paths.specs.Held.{first_in, first_beyond_in, HoldsFirsts}
use Rattle.paths.specs.Meets.{or_else, far_route}
use Rattle.paths.specs.declared.Firsts.{Firsts}
use Rattle.paths.proofs.Meeting.{first_next}
use Rattle.paths.proofs.Passing.{near-own}

module _ (N : Network) (d : Read N) (r : Rules N) where
  -- the path of the station that a line feeds
  pub far-path : (l : ℕ) → 1 ≤ l → l ≤ length N.lines → is_open N (far (near_end N l)) ≡ false → path_to_hv N (station (station_at N (far (near_end N l)))) ≡ far_route N l
  far-path l i j c = (far-first N d r l (i, j) c).path ∙ ap (λ k. far (near_end N l) ∷ route N k) (near-end N d r l (i, j)).own

  -- the first place on that path
  pub first-beyond : (t : Tree) (places : Marks) (f : Firsts) → HoldsNears N t → HoldsPlaces N places → HoldsFirsts N f → (l : ℕ) → LineThere N l
      → first_beyond_in f t places l ≡ found (place_on N (first_place (place_ends N) (far_route N l)))
  first-beyond t places f o m h l a =
      ap (λ e. or_else (mark_on places (far e)) (first_in f l)) (o l a)
      ∙ first_next N (far (near_end N l)) (route N l) (mark_on places (far (near_end N l))) (first_in f l) marked (h l a)
    where
      n : ((near_end N l).line ≡ l) × (1 ≤ (near_end N l).side) × ((near_end N l).side ≤ 2)
      n = near-own N d r l a.low a.high

      marked : mark_on places (far (near_end N l)) ≡ found (place_on N (far (near_end N l)))
      marked =
          m (end_code (far (near_end N l))) (omega (arith, n, a.low)) (omega (arith, n, a.high))
          ∙ ap (λ e. found (place_on N e)) (end-of-code (far (near_end N l)) (record { line = omega (arith, n.0, a.low); first = omega (arith, n.2); second = omega (arith, n.1) }))

  -- any station but an HV station is fed by a line
  pub fed-path : (s : ℕ) (f : End) → FarEnd N s f → path_to_hv N (station s) ≡ far_route N f.line
  fed-path s f t = t.path ∙ ap (λ e. e ∷ route N f.line) t.is-far
