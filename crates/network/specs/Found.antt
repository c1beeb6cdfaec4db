-- The number of a line, station or place that is found, and none where there is none.
use Prim.Native.Nat.{ℕ, zero, suc, ◌≤◌}
use Rattle.std.specs.Prelude.{◌≡◌, Option, Some, None}
use Rattle.std.proofs.Math.Path.{refl, ap}
use Rattle.std.proofs.Common.{arith}

-- 0 stands for none
abbrev pub found : ℕ → Option ℕ
found zero = None
found (suc n) = Some (suc n)

pub found-is : (n : ℕ) → 1 ≤ n → Some n ≡ found n
found-is zero l = absurd (omega arith)
found-is (suc n) l = refl

pub found-some : (k x : ℕ) → 1 ≤ k → k ≡ x → Some k ≡ found x
found-some zero x l e = absurd (omega arith)
found-some (suc k) x l e = ap found e

pub found-none : (x : ℕ) → 0 ≡ x → None ≡ found x
found-none x e = ap found e

pub some-found : (x k : ℕ) → found x ≡ Some k → (x ≡ k) × (1 ≤ x)
some-found zero k e = absurd (none-some k e)
  where
    none-some : (k : ℕ) → None ≡ Some k → ⊥
    none-some k e = let z : ◌≡◌ {A = ℕ} 0 1 = cc in omega arith
some-found (suc x) k e = let q : suc x ≡ k = cc in (q, omega arith)

pub none-found : (x : ℕ) → found x ≡ None → x ≡ 0
none-found zero e = refl
none-found (suc x) e = let z : ◌≡◌ {A = ℕ} 0 1 = cc in absurd (omega arith)
