-- How much the total falls with one more place: the place's weight times the customers that its breaker spares.
use Prim.Native.Nat.{ℕ, ◌+◌, ◌*◌, ◌-◌, ◌^◌, ◌≤◌, ◌<◌}
use mathlib.Core.Path.{◌≡◌, sym, ap, ◌∙◌}
use mathlib.Core.Bool.{false}
use mathlib.Core.List.{List, [], ◌∷◌, ◌++◌}
use native.Mathlib.Nat.{mul-add}
use native.Mathlib.Omega.{arith}
use Rattle.std.specs.Prelude.{Option}
use Rattle.model.specs.Network.{Network}
use Rattle.model.specs.Paths.{End, is_open}
use Rattle.model.specs.Outage.{customers_behind}
use Rattle.model.specs.Sets.{place_at, set_total}
use Rattle.savings.specs.Breakers.{end_at}
use Rattle.savings.specs.Totals.{breakers_with}
use Rattle.theory.specs.Ends.{closed-end}
use Rattle.theory.specs.Sizes.{read-sized, set_total-size}
use Rattle.tree.specs.Linked.{LineHeld}
use Rattle.outage.specs.declared.Behind.{Behind}
use Rattle.outage.specs.Held.{HoldsCustomers, customers_in}
use Rattle.outage.proofs.Paths.{behind-line}
use Rattle.relations.specs.declared.Relations.{Relations}
use Rattle.starts.specs.declared.Outlook.{Outlook}
use Rattle.sets.specs.Sets.{upstream_at, weight_at, set-total}
use Rattle.prospects.specs.Chosen.{Chosen, Later}
use Rattle.prospects.proofs.Upstream.{end-closed, before-free, upstream-closed, behind-upstream}
use Rattle.prospects.proofs.OneMore.{before-later}
use Rattle.prospects.proofs.Outlooks.{chosen-valid}

module _ {N : Network} {relations : Relations} {outlook : Outlook} {S : List ℕ} {pending : Option ℕ} {p : ℕ} (y : Later N relations outlook S pending p) where
  abbrev x : Chosen N relations S y.last
  x = y.chosen

  abbrev e : End
  e = end_at N p

  abbrev upstream : End
  upstream = upstream_at N S e

  closed : is_open N e ≡ false
  closed = end-closed N x.accepted p (omega (arith, y.low)) y.high

  pub free : breakers_with N S e ≡ false
  free = before-free N x.accepted p (omega (arith, y.low)) y.high S (before-later (y.last + 1) p S (omega (arith, y.low)) x.members)

  upstream-shut : is_open N upstream ≡ false
  upstream-shut = upstream-closed N x.accepted S (chosen-valid x) e closed free

  -- the line of the place, and that of the breaker upstream of it
  module _ {own up : ℕ} (q : own ≡ (place_at N p).line) (u : up ≡ upstream.line) where
    pub own-there : LineHeld own
    own-there = let l = closed-end N e closed in record { low = omega (arith, q, l.0); high = omega (arith, q, l.1, x.accepted.read.line_count, x.accepted.read.head.lines.high) }

    pub up-there : LineHeld up
    up-there = let l = closed-end N upstream upstream-shut in record { low = omega (arith, u, l.0); high = omega (arith, u, l.1, x.accepted.read.line_count, x.accepted.read.head.lines.high) }

    module _ (b : Behind) (h : HoldsCustomers N b) where
      abbrev spared : ℕ
      spared = customers_in b up - customers_in b own

      behind-upstream-is : customers_in b up ≡ customers_behind N upstream
      behind-upstream-is =
          let l = closed-end N upstream upstream-shut in
          ap (customers_in b) u ∙ h upstream.line (record { low = l.0; high = l.1 }) ∙ sym (behind-line N x.accepted.read x.accepted.rules upstream upstream-shut)

      behind-place-is : customers_in b own ≡ customers_behind N e
      behind-place-is =
          let l = closed-end N e closed in
          ap (customers_in b) q ∙ h e.line (record { low = l.0; high = l.1 }) ∙ sym (behind-line N x.accepted.read x.accepted.rules e closed)

      pub no-fewer : customers_in b own ≤ customers_in b up
      no-fewer = omega (arith, behind-upstream-is, behind-place-is, behind-upstream N x.accepted S (chosen-valid x) e closed free)

      module _ {weight : ℕ} (w : weight ≡ weight_at N S e) where
        falls : weight * spared + set_total N (S ++ (p ∷ [])) ≡ set_total N S
        falls =
            let more : customers_behind N upstream ≡ customers_behind N e + spared = omega (arith, behind-upstream-is, behind-place-is, no-fewer) in
            omega (
              arith,
              ap (λ n. n * spared) w,
              set-total N x.accepted.read x.accepted.rules S (chosen-valid x) p closed free,
              ap (λ n. weight_at N S e * n) more ∙ mul-add (weight_at N S e) (customers_behind N e) spared,
            )

        pub fall-size : weight * spared < 2 ^ 64
        fall-size = omega (arith, falls, set_total-size N (read-sized N x.accepted.read) S)

        pub fall-is : {r : ℕ} → r ≡ weight * spared → r + set_total N (S ++ (p ∷ [])) ≡ set_total N S
        fall-is d = omega (arith, falls, d)
