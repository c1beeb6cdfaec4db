-- The place where a line's path first meets a breaker or a place, by its first place and the breakers that trip for the line and
-- for what lies behind the place.
use Rattle.std.specs.Prelude.{None, Some}
use Prim.Native.Nat.{ℕ, ◌≤◌}
use mathlib.Core.Path.{◌≡◌, sym, ap, ◌∙◌, fun_ext}
use mathlib.Core.Bool.{Bool, true, false, ◌&&◌, or-false}
use mathlib.Core.Logic.{⊎_elim}
use mathlib.Core.List.{[]}
use native.Mathlib.Omega.{arith}
use lib.ListN.{length}
use Rattle.model.specs.Lists.{any, first_or}
use Rattle.model.specs.Network.{Network}
use Rattle.model.specs.Paths.{End, same_end, is_breaker}
use Rattle.model.specs.Outage.{no_end, tripped}
use Rattle.model.specs.Sets.{place_at}
use Rattle.savings.specs.First.{this}
use Rattle.savings.specs.Breakers.{end_at}
use Rattle.savings.specs.Totals.{breakers_with}
use Rattle.theory.specs.Ends.{in-numbers}
use Rattle.theory.specs.Best.{Accepted}
use Rattle.network.specs.There.{LineThere, PlaceThere}
use Rattle.network.specs.Found.{found, none-found, some-found}
use Rattle.sets.specs.Ways.{has, covers, covers-is, first_on}
use Rattle.sets.specs.Onward.{onward}
use Rattle.sets.specs.Stops.{first_place, first_stop, stop_is}
use Rattle.sets.specs.Sets.{route, upstream_at, no-breaker, line-ways}
use Rattle.sets.specs.Apart.{place_ends}
use Rattle.sets.specs.Start.{place-free-of, no_place}
use Rattle.marks.specs.Held.{place_on}
use Rattle.marks.proofs.PlaceOn.{Placed, place-or-none, no-end-unplaced, breaker-unplaced}
use Rattle.paths.specs.Held.{trip_in, first_in, HoldsPaths, HoldsFirsts}
use Rattle.paths.specs.declared.Paths.{Paths}
use Rattle.paths.specs.declared.Firsts.{Firsts}
use Rattle.starts.specs.Own.{stop_of}
use Rattle.starts.proofs.OnEnds.{first-cases, on-most}
use Rattle.starts.proofs.UnderPlaces.{trip-upstream}

module _ (N : Network) (a : Accepted N) (l : ℕ) (i : 1 ≤ l) (j : l ≤ length N.lines) where
  abbrev B : End → Bool
  B = breakers_with N []

  -- the first place and the first breaker of the line's path
  abbrev s : End
  s = first_place (place_ends N) (route N l)

  abbrev e : End
  e = first_or no_end B (route N l)

  pub trip-is : e ≡ tripped N l
  unfolding tripped any
  trip-is = ap (λ B. first_or no_end B (route N l)) (fun_ext (λ e. or-false (is_breaker N e)))

  -- no place is on the first breaker
  none-there : place_on N e ≡ 0
  unfolding any
  none-there = ⊎_elim (λ x. ap (place_on N) x.0 ∙ (no-end-unplaced N a.read).0) (λ x. breaker-unplaced N a e (sym (or-false (is_breaker N e)) ∙ x.1)) (first-cases no_end B (route N l))

  stops : (b : Bool) → (has s (place_ends N) && covers B s (route N l)) ≡ b → stop_of N l ≡ place_on N (this b s e)
  stops b h = ap (place_on N) (stop_is B (place_ends N) (place-free-of N a) (no_place N a) (route N l) ∙ ap (λ t. this t s e) h)

  -- the path has no place
  pub stop-none : place_on N s ≡ 0 → 0 ≡ stop_of N l
  stop-none z = ⊎_elim (λ n. sym (stops false (ap (λ b. b && covers B s (route N l)) n.1) ∙ none-there)) (λ g. absurd (omega (arith, g.low, z))) (place-or-none N s)

  module _ (g : Placed N s) where
    -- the first place's breaker would trip for the line where one breaker trips for both now
    covered : (has s (place_ends N) && covers B s (route N l)) ≡ same_end (tripped N l) (upstream_at N [] s)
    covered =
        (λ t. g.listed t && covers-is (onward N) B s (no-breaker N [] tt) (place-free-of N a s g.listed) (route N l) (line-ways N a.read a.rules l (in-numbers l 1 (length N.lines) i (omega (arith, j)))) t)
        ∙ ap (λ b. b && same_end e (upstream_at N [] s)) (first_on (λ d. has d (place_ends N)) (no_place N a) (route N l) g.listed)
        ∙ ap (λ d. same_end d (upstream_at N [] s)) trip-is

    pub stop-place : same_end (tripped N l) (upstream_at N [] s) ≡ true → place_on N s ≡ stop_of N l
    stop-place q = sym (stops true (covered ∙ q))

    pub stop-breaker : same_end (tripped N l) (upstream_at N [] s) ≡ false → 0 ≡ stop_of N l
    stop-breaker q = sym (stops false (covered ∙ q) ∙ none-there)

  pub stop-few : stop_of N l ≤ 64
  stop-few = omega (arith, on-most N (first_stop B (place_ends N) (route N l)), a.read.place_count)

-- ── by the paths ──
module _ (N : Network) (a : Accepted N) (paths : Paths) (firsts : Firsts) (t : HoldsPaths N paths) (f : HoldsFirsts N firsts) (l : ℕ) (u : LineThere N l) where
  abbrev start : End
  start = first_place (place_ends N) (route N l)

  pub stop-without : first_in firsts l ≡ None → None ≡ found (stop_of N l)
  stop-without z = ap found (stop-none N a l u.low u.high (none-found (place_on N start) (sym (f l u) ∙ z)))

  -- the first place on the line's path
  module _ (p : ℕ) (z : first_in firsts l ≡ Some p) where
    is : (place_on N start ≡ p) × (1 ≤ place_on N start)
    is = some-found (place_on N start) p (sym (f l u) ∙ z)

    placed : Placed N start
    placed = ⊎_elim (λ n. absurd (omega (arith, n.0, is.1))) (λ g. g) (place-or-none N start)

    pub place-there : PlaceThere N p
    place-there = record { low = omega (arith, is, placed.low); high = omega (arith, is, placed.high) }

    -- the breakers that trip for the line and for that of the place
    trips : same_end (trip_in paths l) (trip_in paths (place_at N p).line) ≡ same_end (tripped N l) (upstream_at N [] start)
    trips = λ i. same_end (t.trips l u i) ((trip-upstream N a p place-there paths t ∙ ap (λ d. upstream_at N [] d) (ap (end_at N) (sym is.0) ∙ placed.is)) i)

    pub same-trip : same_end (trip_in paths l) (trip_in paths (place_at N p).line) ≡ true → Some p ≡ found (stop_of N l)
    same-trip q = sym z ∙ f l u ∙ ap found (stop-place N a l u.low u.high placed (sym trips ∙ q))

    pub other-trip : same_end (trip_in paths l) (trip_in paths (place_at N p).line) ≡ false → None ≡ found (stop_of N l)
    other-trip q = ap found (stop-breaker N a l u.low u.high placed (sym trips ∙ q))
