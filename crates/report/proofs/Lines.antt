-- The lines of a report, from the numbers that are printed.
use Prim.Native.Nat.{ℕ}
use mathlib.Core.Path.{◌≡◌, ap, ap₂}
use mathlib.Core.List.{[], ◌∷◌}
use Rattle.model.specs.Network.{Network}
use Rattle.model.specs.Outage.{impact, outage_amount, total, figure}
use Rattle.model.specs.Sets.{place_at}
use Rattle.model.specs.Text.{printed_line, line_a, line_f, line_b}

module _ (N : Network) where
  pub line_a-is : (t g : ℕ) → t ≡ total N → g ≡ figure N → printed_line 65 (t ∷ g ∷ []) ≡ line_a N
  unfolding line_a
  line_a-is t g p q = ap₂ (λ (x y : ℕ). printed_line 65 (x ∷ y ∷ [])) p q

  pub line_f-is : (l c a : ℕ) → c ≡ impact N l → a ≡ outage_amount N l → printed_line 70 (l ∷ c ∷ a ∷ []) ≡ line_f N l
  unfolding line_f
  line_f-is l c a p q = ap₂ (λ (x y : ℕ). printed_line 70 (l ∷ x ∷ y ∷ [])) p q

  pub line_b-is : (p x y : ℕ) → x ≡ (place_at N p).line → y ≡ (place_at N p).side → printed_line 66 (x ∷ y ∷ []) ≡ line_b N p
  unfolding line_b
  line_b-is p x y e f = ap₂ (λ (x y : ℕ). printed_line 66 (x ∷ y ∷ [])) e f

-- the line of an outcome, with an equal number in front
pub outcome-is : (m n v k t : ℕ) → m ≡ n → printed_line 67 (m ∷ v ∷ k ∷ t ∷ []) ≡ printed_line 67 (n ∷ v ∷ k ∷ t ∷ [])
outcome-is m n v k t e = ap (λ (x : ℕ). printed_line 67 (x ∷ v ∷ k ∷ t ∷ [])) e
