-- The ends on a path to the HV station are closed, and there are no more of them than closed ends.
use Prim.Native.Nat.{ℕ, ◌*◌, ◌≤◌}
use mathlib.Core.Path.{◌≡◌, refl}
use mathlib.Core.Bool.{false, not}
use mathlib.Core.List.{List, [], ◌∷◌, flat_map, Memᴰ}
use native.Mathlib.Omega.{arith}
use lib.ListN.{length}
use Rattle.model.specs.Lists.{numbers}
use Rattle.model.specs.Network.{Network}
use Rattle.model.specs.Paths.{Vertex, End, end1, end2, line_numbers, is_open, closed_ends}
use Rattle.model.specs.Outage.{path_to_hv}
use Rattle.graphs.specs.Behind.{short}
use Rattle.theory.specs.Reading.{Read}
use Rattle.theory.specs.Sizes.{numbers-length, keep-length}
use Rattle.theory.specs.Ends.{closed_in, walk-closed}
use Rattle.theory.specs.Radial.{Rules, In}
use Rattle.theory.specs.Forest.{path-home}

-- two ends a line
ends-length : (ls : List ℕ) → length (flat_map (λ l. end1 l ∷ end2 l ∷ []) ls) ≡ 2 * length ls
unfolding flat_map
ends-length [] = refl
ends-length (l ∷ ls) = omega (arith, ends-length ls)

pub closed-length : (N : Network) → length (closed_ends N) ≤ 2 * length N.lines
unfolding closed_ends line_numbers
closed-length N = omega (
  arith,
  keep-length (λ e. not (is_open N e)) (flat_map (λ l. end1 l ∷ end2 l ∷ []) (numbers 1 (length N.lines))),
  ends-length (numbers 1 (length N.lines)),
  numbers-length 1 (length N.lines),
)

module _ (N : Network) (d : Read N) (r : Rules N) (v : Vertex) (i : In N v) where
  pub path-closed : (e : End) → Memᴰ e (path_to_hv N v) → is_open N e ≡ false
  path-closed e m = closed_in N e (walk-closed N (path-home N d r v i).trail.walk e m)

  pub path-short : length (path_to_hv N v) ≤ length (closed_ends N)
  path-short = let t = (path-home N d r v i).trail in short (path_to_hv N v) (closed_ends N) t.once (λ e m. walk-closed N t.walk e m)
