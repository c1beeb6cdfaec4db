-- The customers behind every line, HV station by HV station.
use Prim.Native.Nat.{ℕ, ◌+◌, ◌<◌}
use mathlib.Core.Path.{◌≡◌, refl, sym, ap, ◌∙◌}
use mathlib.Core.Bool.{true, false, true≢false}
use mathlib.Core.Logic.{◌⊎◌, inl, inr, ⊎_elim}
use native.Mathlib.Decide.{ℕ_discrete}
use native.Mathlib.Omega.{arith}
use lib.ListN.{length}
use Rattle.std.specs.Prelude.{None}
use Rattle.model.specs.Network.{Network}
use Rattle.model.specs.Paths.{station, End, is_open, station_at, is_hv, at_hv}
use Rattle.theory.specs.Reading.{Read}
use Rattle.theory.specs.Radial.{Rules, root_in}
use Rattle.outage.specs.declared.Behind.{Behind}
use Rattle.outage.specs.Held.{HoldsCustomers}
use Rattle.outage.specs.Below.{Leaves, Filled}
use Rattle.outage.proofs.Paths.{hv-end}
use Rattle.outage.proofs.Filling.{filled_none, filled-fewer, filled-both}

-- a closed end at an HV station below a number
pub record AtHV (N : Network) (s : ℕ) (d : End) : Type 0 where
  pub closed : is_open N d ≡ false
  pub hv : is_hv N (station_at N d) ≡ true
  pub below : station_at N d < s

module _ (N : Network) (old : Behind) where
  pub hv-none : (r : Read N) → Filled N (AtHV N 1) old old
  unfolding at_hv
  hv-none r = filled_none N (AtHV N 1) old (λ d a. let i = root_in N r (station (station_at N d)) a.hv in omega (arith, i.0, a.below))

  module _ (new : Behind) (s : ℕ) (f : Filled N (AtHV N s) old new) where
    -- past a station that is not an HV station
    pub hv-skip : is_hv N s ≡ false → Filled N (AtHV N (s + 1)) old new
    hv-skip h = filled-fewer N (AtHV N s) (AtHV N (s + 1)) old new (λ d a. go d a (ℕ_discrete (station_at N d) s)) f
      where
        go : (d : End) → AtHV N (s + 1) d → Dec (station_at N d ≡ s) → AtHV N s d
        go d a (yes p) = absurd (true≢false (sym a.hv ∙ ap (is_hv N) p ∙ h))
        go d a (no p) = record { closed = a.closed; hv = a.hv; below = omega (arith, a.below) }

    -- past an HV station
    pub hv-more : (newer : Behind) → Filled N (Leaves N None s) new newer → Filled N (AtHV N (s + 1)) old newer
    hv-more newer g = filled-both N (AtHV N s) (Leaves N None s) (AtHV N (s + 1)) old new newer (λ d a. go d a (ℕ_discrete (station_at N d) s)) f g
      where
        go : (d : End) → AtHV N (s + 1) d → Dec (station_at N d ≡ s) → AtHV N s d ⊎ Leaves N None s d
        go d a (yes p) = inr (record { closed = a.closed; at = p; other = refl })
        go d a (no p) = inl (record { closed = a.closed; hv = a.hv; below = omega (arith, a.below) })

  -- past all stations
  pub hv-all : (r : Read N) (t : Rules N) (new : Behind) (s : ℕ) → length N.stations < s → Filled N (AtHV N s) old new → HoldsCustomers N new
  unfolding at_hv
  hv-all r t new s h f l i = ⊎_elim (λ x. x)
      (λ x. let g = hv-end N r t l i.low i.high in absurd (x.1 g.0 g.1 (record { closed = g.2; hv = g.3; below = omega (arith, (root_in N r (station (station_at N g.0)) g.3).1) })))
      (f l i)
