-- Largest values over the numbers from one up to another, without it.
use Prim.Native.Nat.{ℕ, ◌+◌, ◌-◌, ◌≤◌, ◌<◌, max}
use mathlib.Core.Path.{◌≡◌, refl, ap}
use mathlib.Core.Bool.{Bool}
use mathlib.Core.List.{List, [], ◌∷◌, Memᴰ}
use native.Mathlib.Omega.{arith}
use Rattle.model.specs.Lists.{numbers}
use Rattle.graphs.specs.Sum.{on}
use Rattle.theory.specs.Gathering.{numbers-first, numbers-none}
use Rattle.sets.specs.InSeries.{most}

-- the largest value of those that pass a test
abbrev pub most_from : (ℕ → Bool) → (ℕ → ℕ) → ℕ → ℕ → ℕ
most_from test f k end = most test f (numbers k (end - k))

module _ (test : ℕ → Bool) (f : ℕ → ℕ) where
  pub most-first : (k end : ℕ) → k < end → most_from test f k end ≡ max (on (test k) (f k)) (most_from test f (k + 1) end)
  most-first k end h = ap (most test f) (numbers-first k end h)

  pub most-none : (k end : ℕ) → end ≤ k → most_from test f k end ≡ 0
  most-none k end h = ap (most test f) (numbers-none k end h)

  pub most-all : (n : ℕ) → most_from test f 1 (n + 1) ≡ most test f (numbers 1 n)
  most-all n = ap (λ k. most test f (numbers 1 k)) {x = n + 1 - 1} {y = n} (omega arith)

  pub most-ext : (other : ℕ → Bool) (g : ℕ → ℕ) (ks : List ℕ) → ((k : ℕ) → Memᴰ k ks → on (test k) (f k) ≡ on (other k) (g k)) → most test f ks ≡ most other g ks
  most-ext other g [] h = refl
  most-ext other g (k ∷ ks) h = omega (arith, h k (Memᴰ.head refl), most-ext other g ks (λ j m. h j (Memᴰ.tail m)))
