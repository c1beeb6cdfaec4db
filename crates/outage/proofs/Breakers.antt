-- The impacts, from the breakers that trip for the lines and the customers behind the lines of these breakers.
use Prim.Native.Nat.{ℕ, ◌+◌, ◌≤◌, ◌<◌}
use mathlib.Core.Path.{◌≡◌, sym, ap, ◌∙◌, subst}
use mathlib.Core.Bool.{false}
use mathlib.Core.Logic.{◌≢◌}
use native.Mathlib.Decide.{ℕ_discrete}
use native.Mathlib.Omega.{arith}
use Rattle.model.specs.Network.{Network}
use Rattle.model.specs.Paths.{End, is_open}
use Rattle.model.specs.Outage.{tripped, impact}
use Rattle.theory.specs.Reading.{Read}
use Rattle.theory.specs.Ends.{breaker-closed, closed-end}
use Rattle.theory.specs.Radial.{Rules}
use Rattle.theory.specs.Segments.{tripped-breaker}
use Rattle.network.specs.There.{LineThere}
use Rattle.paths.specs.declared.Paths.{Paths}
use Rattle.paths.specs.Held.{trip_in, HoldsTrips}
use Rattle.outage.specs.declared.Behind.{Behind}
use Rattle.outage.specs.declared.Impacts.{Impacts}
use Rattle.outage.specs.Held.{customers_in, HoldsCustomers, impact_in}
use Rattle.outage.proofs.Paths.{behind-line}

module _ (N : Network) (d : Read N) (r : Rules N) (l : ℕ) (i : LineThere N l) where
  pub trip-closed : is_open N (tripped N l) ≡ false
  trip-closed = breaker-closed N (tripped N l) (tripped-breaker N d r l i.low i.high)

  -- the line of the breaker that trips
  module _ (p : Paths) (t : HoldsTrips N p) (k : ℕ) (q : k ≡ (trip_in p l).line) where
    trip-line : k ≡ (tripped N l).line
    trip-line = q ∙ ap (λ (e : End). e.line) (t l i)

    pub trip-there : LineThere N k
    trip-there = let x = closed-end N (tripped N l) trip-closed in subst (LineThere N) (sym trip-line) (record { low = x.0; high = x.1 })

    -- the customers behind it are the impact
    pub trip-impact : (b : Behind) → HoldsCustomers N b → customers_in b k ≡ impact N l
    unfolding impact
    trip-impact b h =
        let x = closed-end N (tripped N l) trip-closed in
        ap (customers_in b) trip-line ∙ h (tripped N l).line (record { low = x.0; high = x.1 }) ∙ sym (behind-line N d r (tripped N l) trip-closed)

-- the lines before one have their impacts
abbrev pub Before : Network → Impacts → ℕ → Type 0
Before N x l = (k : ℕ) → 1 ≤ k → k < l → impact_in x k ≡ impact N k

pub before-more : (N : Network) (old new : Impacts) (l v : ℕ) → impact_in new l ≡ v → ((k : ℕ) → 1 ≤ k → k ≢ l → impact_in new k ≡ impact_in old k) → v ≡ impact N l → Before N old l → Before N new (l + 1)
before-more N old new l v s o e u k b c = go (ℕ_discrete k l)
  where
    go : Dec (k ≡ l) → impact_in new k ≡ impact N k
    go (yes q) = subst (λ k. impact_in new k ≡ impact N k) (sym q) (s ∙ e)
    go (no q) = o k b q ∙ u k b (omega (arith, c, q))
