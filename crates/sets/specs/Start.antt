-- An accepted file's places before any is chosen: the breakers upstream of them, their weights and the breakers in series with them.
use Rattle.std.specs.Prelude.{ℕ, ◌≡◌, Bool}
use Rattle.std.proofs.Math.Path.{refl, ap, fun_ext}
use Rattle.std.proofs.Common.{sym, ◌∙◌}
use Rattle.std.proofs.Math.Bool.{true, false, or-false}
use mathlib.Core.List.Memᴰ
use mathlib.Core.List.{[], Memᴰ}
use Rattle.model.specs.Lists.{any, first_or}
use Rattle.model.specs.Network.{Network}
use Rattle.model.specs.Paths.{line, End, same_end, state, is_breaker, is_open}
use Rattle.model.specs.Outage.{path_to_hv, no_end, tripped}
use Rattle.model.specs.Sets.{place_numbers}
use Rattle.savings.specs.Facts.{same_end-eq, same_end-refl}
use Rattle.savings.specs.Breakers.{end_at}
use Rattle.savings.specs.Totals.{breakers_with}
use Rattle.theory.specs.Ends.{any-in, any_out}
use Rattle.theory.specs.Behind.{vertices}
use Rattle.theory.specs.Best.{Accepted, place-closed}
use Rattle.sets.specs.Ways.{has}
use Rattle.sets.specs.Stops.{own, own_in_series}
use Rattle.sets.specs.Onward.{upstream-line}
use Rattle.sets.specs.Sets.{route, load, lines, upstream_at}
use Rattle.sets.specs.Apart.{place_ends, place-free}

-- the weight of all lines whose path meets an end first, of those with a breaker or a place
abbrev pub own_at : Network → End → ℕ
own_at N e = own (route N) (load N) (lines N) (breakers_with N []) (place_ends N) e

-- the most breakers on a path that meets an end first, of those with a place
abbrev pub own_in_series_at : Network → End → ℕ
own_in_series_at N e = own_in_series (path_to_hv N) (vertices N) (breakers_with N []) (place_ends N) e

module _ (N : Network) (a : Accepted N) where
  -- a place's end
  place_of : (e : End) → has e (place_ends N) ≡ true → (p : ℕ) × Memᴰ p (place_numbers N) × (end_at N p ≡ e)
  place_of e h =
      let x = any_out (λ d. same_end d e) (place_ends N) h in
      let y = Memᴰ.of_map (λ p. end_at N p) (place_numbers N) x.1 in
      (y.0, y.1, y.2 ∙ same_end-eq x.0 e x.2)

  pub place-free-of : (e : End) → has e (place_ends N) ≡ true → breakers_with N [] e ≡ false
  place-free-of e h = let x = place_of e h in ap (breakers_with N []) (sym x.2) ∙ place-free N a x.0 x.1 [] (λ p m. absurd (Memᴰ.not-nil m)) tt

  pub no_place : has no_end (place_ends N) ≡ false
  unfolding state
  no_place = go (has no_end (place_ends N)) refl
    where
      go : (b : Bool) → has no_end (place_ends N) ≡ b → b ≡ false
      go true h = let x = place_of no_end h in ap (λ e. is_open N e) (sym x.2) ∙ place-closed N a x.0 x.1
      go false h = refl

  pub place-listed : (p : ℕ) → Memᴰ p (place_numbers N) → has (end_at N p) (place_ends N) ≡ true
  place-listed p m = any-in (λ d. same_end d (end_at N p)) (end_at N p) (place_ends N) (Memᴰ.map (λ p. end_at N p) m) (same_end-refl (end_at N p))

  -- the breaker upstream of a place is the one that trips for a fault on its line
  pub start-upstream : (p : ℕ) → Memᴰ p (place_numbers N) → upstream_at N [] (end_at N p) ≡ tripped N (end_at N p).line
  unfolding tripped any
  start-upstream p m =
      upstream-line N (breakers_with N []) (end_at N p) (place-free-of (end_at N p) (place-listed p m))
      ∙ ap (λ B. first_or no_end B (path_to_hv N (line (end_at N p).line))) (fun_ext (λ e. or-false (is_breaker N e)))
