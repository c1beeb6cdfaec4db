-- What a tree holds of a network can be had in full where it is truncated: most of it has at most one proof, and the lists and
-- positions can be found again.
use Rattle.std.specs.Prelude.{Option, None, Some}
use Rattle.std.proofs.Props.{props}
use Prim.Native.Nat.{ℕ, zero, suc, ◌+◌, ◌-◌, ◌≤◌, ◌<◌}
use mathlib.Core.Path.{◌≡◌, refl, subst}
use mathlib.Core.HLevel.{⊥_prop}
use mathlib.Core.Logic.{◌≢◌, ∥∥₁_elim, ∥∥₁_map}
use mathlib.Core.List.{List, [], ◌∷◌}
use native.Mathlib.Decide.{ℕ_discrete}
use native.Mathlib.Omega.{arith}
use lib.ListN.{length, get_or}
use Rattle.model.specs.Network.{Network}
use Rattle.model.specs.Paths.{End}
use Rattle.tree.specs.Linked.{code_end, Chain, over, link, Listed}
use Rattle.tree.specs.Outwards.{feeder}
use Rattle.tree.specs.Held.{lines_in, HoldsFeeders, HoldsOutwards, HoldsTree}
use Rattle.tree.specs.declared.Tree.{Tree}

module _ (nexts : List (Option ℕ)) where
  linked : {c : ℕ} {es : List End} → Chain nexts (Some c) es → Listed nexts (get_or nexts (c - 1) None) × (1 ≤ c) × (c ≤ 1536) × ((d : ℕ) → get_or nexts (c - 1) None ≡ Some d → c < d)
  linked (link {es} a b g t) = ((es, t), a, b, g)

  -- the codes of a list rise, so that it is found in so many steps
  held_listed : (k : ℕ) (o : Option ℕ) → ((d : ℕ) → o ≡ Some d → 1536 < d + k) → ∥ Listed nexts o ∥₁ → Listed nexts o
  held_listed k None f h = ([], over)
  held_listed zero (Some c) f h = let b = ∥∥₁_elim h (hlevel props) (λ l. (linked l.1).2) in absurd (omega (arith, b, f c refl))
  held_listed (suc k) (Some c) f h =
      let x = ∥∥₁_map h (λ l. linked l.1) in
      let rises = ∥∥₁_elim x (hlevel props) (λ x. x.3) in
      let rest = held_listed k (get_or nexts (c - 1) None) (λ d e. omega (arith, rises d e, f c refl)) (∥∥₁_map x (λ x. x.0)) in
      (code_end c ∷ rest.0, link (∥∥₁_elim x (hlevel props) (λ x. x.1)) (∥∥₁_elim x (hlevel props) (λ x. x.2)) rises rest.1)

-- a number stands among the first n of a list
abbrev Among : List ℕ → ℕ → ℕ → Type 0
Among xs l n = (i : ℕ) × (i < n) × (get_or xs i 0 ≡ l)

not_last : (xs : List ℕ) (l n : ℕ) → get_or xs n 0 ≢ l → Among xs l (suc n) → Among xs l n
not_last xs l n e x = let d : x.0 ≢ n = λ k. e (subst (λ i. get_or xs i 0 ≡ l) k x.2) in (x.0, omega (arith, d, x.1), x.2)

held_among : (xs : List ℕ) (l n : ℕ) → ∥ Among xs l n ∥₁ → Among xs l n
held_among xs l zero h = absurd (∥∥₁_elim h ⊥_prop (λ x. omega (arith, x.1)))
held_among xs l (suc n) h = go (ℕ_discrete (get_or xs n 0) l) (λ e. held_among xs l n (∥∥₁_map h (not_last xs l n e)))
  where
    go : Dec (get_or xs n 0 ≡ l) → (get_or xs n 0 ≢ l → Among xs l n) → Among xs l (suc n)
    go (yes e) before = (n, omega arith, e)
    go (no e) before = let x = before e in (x.0, omega (arith, x.1), x.2)

pub held_feeders : (N : Network) (t : Tree) → ∥ HoldsFeeders N t ∥₁ → HoldsFeeders N t
held_feeders N t h = record { nears = ∥∥₁_elim h (hlevel props) (λ o. o.nears); feeds = ∥∥₁_elim h (hlevel props) (λ o. o.feeds) }

pub held_outwards : (N : Network) (t : Tree) → ∥ HoldsOutwards N t ∥₁ → HoldsOutwards N t
held_outwards N t h = record {
  feeders = held_feeders N t (∥∥₁_map h (λ o. o.feeders));
  listed = λ l a. held_among (lines_in t) l (length N.lines) (∥∥₁_map h (λ o. o.listed l a));
  inside = ∥∥₁_elim h (hlevel props) (λ o. o.inside);
  after = λ i a b. held_among (lines_in t) (feeder N (get_or (lines_in t) i 0)) i (∥∥₁_map h (λ o. o.after i a b));
}

pub held_tree : (N : Network) (t : Tree) → ∥ HoldsTree N t ∥₁ → HoldsTree N t
held_tree N t h = record {
  linked = record {
    has = λ s a. record {
      low = ∥∥₁_elim h (hlevel props) (λ o. (o.linked.has s a).low);
      high = ∥∥₁_elim h (hlevel props) (λ o. (o.linked.has s a).high);
      listed = held_listed t.lists.nexts 1537 (get_or t.lists.firsts (s - 1) None) (λ d e. omega arith) (∥∥₁_map h (λ o. (o.linked.has s a).listed));
    };
    ends = ∥∥₁_elim h (hlevel props) (λ o. o.linked.ends);
  };
  outwards = held_outwards N t (∥∥₁_map h (λ o. o.outwards));
}
