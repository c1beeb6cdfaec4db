-- The entry of an end: five numbers over the start of a list, if it is a breaker.
use Prim.Native.Nat.{ℕ, ◌*◌, ◌^◌, ◌≤◌, ◌<◌}
use mathlib.Core.Path.{◌≡◌, refl, sym, ap₂, ◌∙◌}
use mathlib.Core.Bool.{true, false}
use mathlib.Core.List.{List, [], ◌∷◌}
use native.Mathlib.Omega.{arith}
use lib.ListN.{length, drop, set}
use Rattle.std.specs.Coded.{le_prop, Coded-set, coded_ℕ}
use Rattle.std.proofs.Math.Logic.{∥∥₁_elim}
use Rattle.model.specs.Network.{Network}
use Rattle.model.specs.Paths.{End, is_breaker}
use Rattle.model.specs.Outage.{customers_behind}
use Rattle.model.specs.Segments.{weight_tripped, segment_amount, segment}
use Rattle.theory.specs.Sizes.{read-sized}
use Rattle.theory.specs.Segments.{segment_amount-size}
use Rattle.theory.specs.Ends.{breaker-closed}
use Rattle.network.specs.There.{LineThere}
use Rattle.outage.specs.declared.Behind.{Behind}
use Rattle.outage.specs.Held.{customers_in}
use Rattle.outage.proofs.Paths.{behind-line}
use Rattle.segments.specs.declared.Weights.{Weights}
use Rattle.segments.specs.Entries.{weight_in, Summed, entry_of}

pub five : (b : List ℕ) (v w x y z : ℕ) → 5 ≤ length b → set (set (set (set (set b 0 v) 1 w) 2 x) 3 y) 4 z ≡ v ∷ w ∷ x ∷ y ∷ z ∷ drop 5 b
five [] v w x y z h = absurd (omega arith)
five (a ∷ []) v w x y z h = absurd (omega arith)
five (a ∷ b ∷ []) v w x y z h = absurd (omega arith)
five (a ∷ b ∷ c ∷ []) v w x y z h = absurd (omega arith)
five (a ∷ b ∷ c ∷ d ∷ []) v w x y z h = absurd (omega arith)
five (a ∷ b ∷ c ∷ d ∷ e ∷ rest) v w x y z h = refl

-- an accepted network has few lines
pub few-lines : {N : Network} {b : Behind} {v : Weights} → ∥ Summed N b v ∥₁ → length N.lines ≤ 768
few-lines {N} m = ∥∥₁_elim m le_prop (λ a. (read-sized N a.accepted.read).line_count)

module _ (N : Network) (e : End) where
  -- an end that is no breaker has no entry
  pub entry-none : is_breaker N e ≡ false → entry_of N e ≡ []
  entry-none h = λ i. elim (h i) [ true ↦ segment N e | false ↦ [] ]

  module _ (b : Behind) (v : Weights) (m : ∥ Summed N b v ∥₁) (l : LineThere N e.line) (h : is_breaker N e ≡ true) (w c : ℕ) (p : w ≡ weight_in v e) (q : c ≡ customers_in b e.line) where
    weight_is : w ≡ weight_tripped N e
    weight_is = ∥∥₁_elim m (Coded-set coded_ℕ _ _) (λ a. p ∙ a.tripped e h)

    customers-is : c ≡ customers_behind N e
    customers-is =
        ∥∥₁_elim m (Coded-set coded_ℕ _ _) (λ a. q ∙ a.behind e.line l ∙ sym (behind-line N a.accepted.read a.accepted.rules e (breaker-closed N e h)))

    amount-is : w * c ≡ segment_amount N e
    unfolding segment_amount
    amount-is = ap₂ (λ x y. x * y) weight_is customers-is

    -- the product fits
    pub amount-fits : w * c < 2 ^ 64
    amount-fits = ∥∥₁_elim m le_prop (λ a. omega (arith, amount-is, segment_amount-size N (read-sized N a.accepted.read) e))

    -- the entry of a breaker
    pub entry-is : ◌≡◌ {A = List ℕ} (e.line ∷ e.side ∷ w ∷ c ∷ w * c ∷ []) (entry_of N e)
    unfolding segment
    entry-is = (λ i. e.line ∷ e.side ∷ weight_is i ∷ customers-is i ∷ amount-is i ∷ []) ∙ (λ i. elim (sym h i) [ true ↦ segment N e | false ↦ [] ])
