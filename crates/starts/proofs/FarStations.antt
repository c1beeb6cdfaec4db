-- The first place on the path of the station that a line feeds, as the tree and the first places of the lines have it.
use Rattle.std.specs.Prelude.{None}
use Prim.Native.Nat.{ℕ, ◌≤◌}
use mathlib.Core.Path.{◌≡◌, sym, ap, ◌∙◌}
use mathlib.Core.Bool.{Bool, true, false}
use native.Mathlib.Omega.{arith}
use lib.ListN.{length}
use Rattle.model.specs.Network.{Network}
use Rattle.model.specs.Paths.{is_open}
use Rattle.theory.specs.Behind.{far}
use Rattle.theory.specs.Best.{Accepted}
use Rattle.network.specs.There.{LineThere}
use Rattle.network.specs.Found.{found}
use Rattle.tree.specs.Linked.{LineHeld}
use Rattle.tree.specs.Held.{near_in, HoldsNears}
use Rattle.tree.specs.declared.Tree.{Tree}
use Rattle.tree.proofs.Fitting.{read_fits}
use Rattle.sets.specs.Stops.{first_place}
use Rattle.sets.specs.Apart.{place_ends}
use Rattle.marks.specs.Held.{place_on, HoldsPlaces}
use Rattle.marks.specs.declared.Marks.{Marks}
use Rattle.paths.specs.Held.{first_beyond_in, HoldsFirsts}
use Rattle.paths.specs.declared.Firsts.{Firsts}
use Rattle.paths.specs.Meets.{far_route}
use Rattle.paths.proofs.FarEnds.{first-beyond}
use Rattle.starts.specs.Own.{far_end, far_place}
use Rattle.starts.proofs.OnEnds.{on-most}

module _ (N : Network) (a : Accepted N) (l : ℕ) where
  -- the first place, if any
  abbrev place : ℕ
  place = place_on N (first_place (place_ends N) (far_route N l))

  pub far-few : far_place N l ≤ 64
  far-few = omega (arith, go (is_open N (far_end N l)), a.read.place_count)
    where
      go : (b : Bool) → (elim b as (λ _. ℕ) [ true ↦ 0 | false ↦ place ]) ≤ length N.places
      go true = omega arith
      go false = on-most N (first_place (place_ends N) (far_route N l))

  module _ (t : Tree) (o : HoldsNears N t) (u : LineThere N l) where
    pub own-held : LineHeld l
    own-held = record { low = u.low; high = omega (arith, u.high, (read_fits N a.read).lines) }

    by_state : (c : Bool) → is_open N (far (near_in t l)) ≡ c → far_place N l ≡ elim c as (λ _. ℕ) [ true ↦ 0 | false ↦ place ]
    by_state c e = ap (λ c. elim c as (λ _. ℕ) [ true ↦ 0 | false ↦ place ]) (ap (λ e. is_open N (far e)) (sym (o l u)) ∙ e)

    pub place-open : is_open N (far (near_in t l)) ≡ true → None ≡ found (far_place N l)
    place-open s = ap found (sym (by_state true s))

    pub place-closed : (places : Marks) (firsts : Firsts) → HoldsPlaces N places → HoldsFirsts N firsts → is_open N (far (near_in t l)) ≡ false
        → first_beyond_in firsts t places l ≡ found (far_place N l)
    place-closed places firsts m f s = first-beyond N a.read a.rules t places firsts o m f l u ∙ ap found (sym (by_state false s))
