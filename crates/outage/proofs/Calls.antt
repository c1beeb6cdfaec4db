-- The sum of a line, one level down.
use Prim.Native.Nat.{ℕ, zero, suc, ◌-◌, ◌≤◌}
use mathlib.Core.Path.{◌≡◌, sym, ap, ◌∙◌, subst}
use mathlib.Core.Bool.{true, false, true≢false}
use native.Mathlib.Omega.{arith}
use lib.ListN.{length, set}
use Rattle.std.specs.Prelude.{Some}
use Rattle.model.specs.Network.{Network}
use Rattle.model.specs.Paths.{End, is_open, station_at}
use Rattle.theory.specs.Behind.{far, station_sum, line_sum}
use Rattle.tree.specs.Outwards.{near_end}
use Rattle.outage.specs.declared.Behind.{Behind}
use Rattle.outage.specs.Below.{Ready, Leaves, AtLine, AtStation, Filled}
use Rattle.tree.specs.declared.Tree.{Tree}
use Rattle.outage.proofs.Paths.{line-levels, at-far}
use Rattle.outage.proofs.Filling.{filled_none, filled-line}

module _ (N : Network) (e : End) where
  open-sum : (k : ℕ) → 1 ≤ k → is_open N (far e) ≡ true → 0 ≡ line_sum N k e
  unfolding line_sum
  open-sum zero h q = absurd (omega arith)
  open-sum (suc k) h q = rw (line_sum, q)

  closed-sum : (k : ℕ) → 1 ≤ k → is_open N (far e) ≡ false → station_sum N (k - 1) (far e) (station_at N (far e)) ≡ line_sum N k e
  unfolding line_sum
  closed-sum zero h q = absurd (omega arith)
  closed-sum (suc k) h q = ap (λ j. station_sum N j (far e) (station_at N (far e))) {x = suc k - 1} {y = k} (omega arith) ∙ rw (line_sum, q)

module _ {N : Network} {t : Tree} (y : Ready N t) {l k : ℕ} (a : AtLine N l k) (f : End) (p : f ≡ far (near_end N l)) where
  pub line-left : 1 ≤ k
  line-left = line-levels N y.read y.rules l k a

  module _ (c : is_open N f ≡ false) (s : ℕ) (u : s ≡ station_at N f) where
    not-open : is_open N (far (near_end N l)) ≡ false
    not-open = ap (is_open N) (sym p) ∙ c

    at-s : station_at N (far (near_end N l)) ≡ s
    at-s = ap (station_at N) (sym p) ∙ sym u

    pub far-station : AtStation N (Some l) s (k - 1)
    far-station = subst (λ z. AtStation N (Some l) z (k - 1)) at-s (at-far N y.read y.rules l k a not-open)

    module _ (r : ℕ) (e : r ≡ station_sum N (k - 1) (far (near_end N l)) s) where
      pub connected-sum : r ≡ line_sum N k (near_end N l)
      connected-sum = e ∙ ap (λ z. station_sum N (k - 1) (far (near_end N l)) z) (sym at-s) ∙ closed-sum N (near_end N l) k line-left not-open

      pub connected-filled : (old new : Behind) → length N.lines ≤ length new.customers → Filled N (Leaves N (Some l) s) old new → Filled N (λ d. d ≡ near_end N l) old (record { customers = set new.customers (l - 1) r })
      connected-filled old new h g =
          filled-line N y.read y.rules l k a (Leaves N (Some l) s) old new r h connected-sum (λ d o m. subst (λ z. Leaves N (Some l) z d) at-s m) g

  module _ (c : is_open N f ≡ true) where
    far-open : is_open N (far (near_end N l)) ≡ true
    far-open = ap (is_open N) (sym p) ∙ c

    pub hanging-sum : 0 ≡ line_sum N k (near_end N l)
    hanging-sum = open-sum N (near_end N l) k line-left far-open

    pub hanging-filled : (old : Behind) → length N.lines ≤ length old.customers → Filled N (λ d. d ≡ near_end N l) old (record { customers = set old.customers (l - 1) 0 })
    hanging-filled old h =
        filled-line N y.read y.rules l k a (λ g. ⊥) old old 0 h hanging-sum (λ g o m. true≢false (sym far-open ∙ o)) (filled_none N (λ g. ⊥) old (λ g p. p))
