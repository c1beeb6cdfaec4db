-- The total, line by line.
use Prim.Native.Nat.{ℕ, suc, ◌+◌, ◌*◌, ◌-◌, ◌<◌}
use mathlib.Core.Path.{◌≡◌, ap, ap₂}
use mathlib.Core.List.{map}
use native.Mathlib.Omega.{arith}
use lib.ListN.{length}
use Rattle.model.specs.Lists.{sum, numbers, numbered}
use Rattle.model.specs.Network.{Network, no_line}
use Rattle.model.specs.Paths.{line_numbers}
use Rattle.model.specs.Outage.{impact, outage_amount, total, figure}

-- the outage amounts of the lines from one up to another, without it
unfoldable pub amounts_from : Network → ℕ → ℕ → ℕ
amounts_from N l end = sum (map (λ k. outage_amount N k) (numbers l (end - l)))

module _ (N : Network) where
  pub amounts-all : amounts_from N 1 (length N.lines + 1) ≡ total N
  unfolding amounts_from total line_numbers
  amounts-all = ap (λ (n : ℕ). sum (map (λ k. outage_amount N k) (numbers 1 n))) {x = length N.lines + 1 - 1} {y = length N.lines} (omega arith)

  pub amounts-none : (l : ℕ) → amounts_from N l l ≡ 0
  unfolding amounts_from sum numbers
  amounts-none l = ap (λ (n : ℕ). sum (map (λ k. outage_amount N k) (numbers l n))) {x = l - l} {y = 0} (omega arith)

  -- one line more
  pub amounts-first : (l end : ℕ) → l < end → amounts_from N l end ≡ outage_amount N l + amounts_from N (l + 1) end
  unfolding amounts_from sum numbers
  amounts-first l end h = ap (λ (n : ℕ). sum (map (λ k. outage_amount N k) (numbers l n))) {x = end - l} {y = suc (end - (l + 1))} (omega arith)

  -- the outage amount is one product
  pub amount-is : (l w c : ℕ) → w ≡ (numbered no_line N.lines l).weight → c ≡ impact N l → w * c ≡ outage_amount N l
  unfolding outage_amount
  amount-is l w c p q = ap₂ (λ x y. x * y) p q

  -- the figure is one product
  pub figure-is : (m t : ℕ) → m ≡ N.head.minutes → t ≡ total N → m * t ≡ figure N
  unfolding figure
  figure-is m t p q = ap₂ (λ x y. x * y) p q
