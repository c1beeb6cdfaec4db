-- A list of closed ends, end by end.
use Prim.Native.Nat.{ℕ, zero, suc, ◌+◌, ◌-◌, ◌≤◌, ◌<◌}
use mathlib.Core.Path.{◌≡◌, refl, sym, ap, ◌∙◌}
use mathlib.Core.List.{List, ◌∷◌}
use native.Mathlib.Omega.{arith}
use lib.ListN.{get_or}
use Rattle.std.specs.Prelude.{Option, None, Some}
use Rattle.model.specs.Paths.{End}
use Rattle.tree.specs.Linked.{code_end, Chain, over, link, Listed, along}

module _ {nexts : List (Option ℕ)} where
  -- the ends of a list are those along it
  along-chain : (o : Option ℕ) (k : ℕ) (es : List End) → Chain nexts o es → ((d : ℕ) → o ≡ Some d → 1536 < d + k) → along k nexts o ≡ es
  along-chain None zero es over h = refl
  along-chain None (suc k) es over h = refl
  along-chain (Some c) zero es (link a b g t) h = absurd (omega (arith, h c refl))
  along-chain (Some c) (suc k) es (link {es = fs} a b g t) h =
      ap (λ fs. code_end c ∷ fs) (along-chain (get_or nexts (c - 1) None) k fs t (λ d p. omega (arith, g d p, h c refl)))

  low : (o : Option ℕ) (es : List End) → Chain nexts o es → (d : ℕ) → o ≡ Some d → 1 ≤ d
  low None es t d p = let z : ◌≡◌ {A = ℕ} 0 1 = cc in absurd (omega arith)
  low (Some c) es (link a b g t) d p = let q : c ≡ d = cc in omega arith

  pub whole-chain : {o : Option ℕ} {es : List End} → Chain nexts o es → along 1536 nexts o ≡ es
  whole-chain {o} {es} t = along-chain o 1536 es t (λ d p. omega (arith, low o es t d p))

  -- a list that begins with a code has its end, and is the list of the next code behind it
  chain_next : {c : ℕ} {es : List End} → Chain nexts (Some c) es → (rest : List End) × (es ≡ code_end c ∷ rest) × Chain nexts (get_or nexts (c - 1) None) rest × (1 ≤ c) × (c ≤ 1536)
  chain_next (link {es} a b g t) = (es, refl, t, a, b)

  module _ {c : ℕ} (l : Listed nexts (Some c)) where
    pub listed-bounds : (1 ≤ c) × (c ≤ 1536)
    listed-bounds = let x = chain_next l.1 in (x.3, x.4)

    pub listed-rest : Listed nexts (get_or nexts (c - 1) None)
    listed-rest = let x = chain_next l.1 in (x.0, x.2)

    pub listed-first : along 1536 nexts (Some c) ≡ code_end c ∷ along 1536 nexts (get_or nexts (c - 1) None)
    listed-first = let x = chain_next l.1 in whole-chain l.1 ∙ x.1 ∙ ap (λ fs. code_end c ∷ fs) (sym (whole-chain x.2))
