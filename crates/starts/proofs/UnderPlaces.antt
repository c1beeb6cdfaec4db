-- The places that a place's values count, by the relations and the breakers that trip for their lines.
use Prim.Native.Nat.{ℕ}
use mathlib.Core.Path.{◌≡◌, refl, sym, ap, ◌∙◌}
use mathlib.Core.Bool.{Bool, true, false, ◌&&◌, ◌||◌, true≢false}
use mathlib.Core.List.{[]}
use native.Mathlib.Decide.{ℕ_discrete}
use native.Mathlib.Omega.{arith}
use lib.Dec.{eqb}
use borrow.Author.Tests.{eq-eqb, ne_eqb}
use Rattle.model.specs.Network.{Network}
use Rattle.model.specs.Paths.{same_end}
use Rattle.model.specs.Sets.{place_at}
use Rattle.graphs.specs.Sum.{on}
use Rattle.savings.specs.Facts.{same_end-eq, same_end-refl}
use Rattle.savings.specs.Breakers.{end_at}
use Rattle.theory.specs.Ends.{closed-end}
use Rattle.theory.specs.Best.{Accepted, place-closed}
use Rattle.network.specs.There.{LineThere, PlaceThere}
use Rattle.tree.specs.Linked.{LineHeld}
use Rattle.tree.proofs.Fitting.{read_fits}
use Rattle.paths.specs.Held.{trip_in, HoldsPaths}
use Rattle.paths.specs.declared.Paths.{Paths}
use Rattle.sets.specs.Ways.{has}
use Rattle.sets.specs.Onward.{onward}
use Rattle.sets.specs.Sets.{upstream_at}
use Rattle.sets.specs.Start.{start-upstream}
use Rattle.sets.specs.Apart.{ends-apart}
use Rattle.relations.specs.Related.{relation, HoldsRelations}
use Rattle.relations.specs.declared.Relation.{Relation}
use Rattle.relations.specs.declared.Relation.TheVariants.{Apart, Behind, Above}
use Rattle.relations.specs.declared.Relations.{Relations}
use Rattle.starts.specs.Own.{is_behind, behind_in, counts_for}
use Rattle.starts.proofs.OnEnds.{place_in}

-- a number that counts where a test passes, and the test has passed or not
pub counted : {r a : Bool} (n : ℕ) → r ≡ a → r ≡ true → on a n ≡ n
counted n e h = ap (λ b. on b n) (sym e ∙ h)

pub not-counted : {r a : Bool} (n : ℕ) → r ≡ a → r ≡ false → on a n ≡ 0
not-counted n e h = ap (λ b. on b n) (sym e ∙ h)

-- how a relation says that a place lies behind another
behind-one : (N : Network) (p s : ℕ) → is_behind (relation N p s) ≡ has (end_at N p) (onward N (end_at N s))
unfolding relation
behind-one N p s = go (has (end_at N p) (onward N (end_at N s))) (has (end_at N s) (onward N (end_at N p)))
  where
    go : (b c : Bool) → is_behind (elim b as (λ _. Relation) [ true ↦ Behind | false ↦ elim c as (λ _. Relation) [ true ↦ Above | false ↦ Apart ] ]) ≡ b
    go true c = refl
    go false true = refl
    go false false = refl

-- ── the line of a place ──
module _ (N : Network) (a : Accepted N) (p : ℕ) (x : PlaceThere N p) where
  pub line-there : LineThere N (place_at N p).line
  line-there = let x = closed-end N (end_at N p) (place-closed N a p (place_in N p x.low x.high)) in record { low = x.0; high = x.1 }

  pub line_held : LineHeld (place_at N p).line
  line_held = record { low = line-there.low; high = omega (arith, line-there.high, (read_fits N a.read).lines) }

  -- the breaker that trips for it is upstream of the place
  pub trip-upstream : (paths : Paths) → HoldsPaths N paths → trip_in paths (place_at N p).line ≡ upstream_at N [] (end_at N p)
  trip-upstream paths h = h.trips (place_at N p).line line-there ∙ sym (start-upstream N a p (place_in N p x.low x.high))

module _ (N : Network) (a : Accepted N) (relations : Relations) (h : HoldsRelations N relations) (p s : ℕ) (x : PlaceThere N p) (y : PlaceThere N s) where
  -- a place is one of those of which what is their own counts
  same_place : eqb s p ≡ same_end (end_at N s) (end_at N p)
  same_place = go (ℕ_discrete s p) (same_end (end_at N s) (end_at N p)) refl
    where
      go : Dec (s ≡ p) → (b : Bool) → same_end (end_at N s) (end_at N p) ≡ b → eqb s p ≡ b
      go (yes q) true e = eq-eqb s p q
      go (yes q) false e = absurd (true≢false (sym (same_end-refl (end_at N p)) ∙ ap (λ x. same_end (end_at N x) (end_at N p)) (sym q) ∙ e))
      go (no q) true e = absurd (q (ends-apart N a s p (place_in N s y.low y.high) (place_in N p x.low x.high) (same_end-eq _ _ e)))
      go (no q) false e = ne_eqb s p q

  pub behind-is : behind_in relations p s ≡ (same_end (end_at N s) (end_at N p) || has (end_at N p) (onward N (end_at N s)))
  behind-is = λ t. same_place t || (ap is_behind (h.each p s x.low x.high y.low y.high) ∙ behind-one N p s) t

  pub under-is : (paths : Paths) → HoldsPaths N paths → (behind_in relations p s && same_end (trip_in paths (place_at N s).line) (trip_in paths (place_at N p).line)) ≡ counts_for N p s
  under-is paths n =
      (λ t. behind-is t && same_end (trip-upstream N a s y paths n t) (trip-upstream N a p x paths n t))
      ∙ go (same_end (end_at N s) (end_at N p)) refl
    where
      b : Bool
      b = has (end_at N p) (onward N (end_at N s))

      m : Bool
      m = same_end (upstream_at N [] (end_at N s)) (upstream_at N [] (end_at N p))

      go : (c : Bool) → same_end (end_at N s) (end_at N p) ≡ c → ((c || b) && m) ≡ (c || (b && m))
      go true e = ap (λ x. same_end (upstream_at N [] x) (upstream_at N [] (end_at N p))) (same_end-eq _ _ e) ∙ same_end-refl (upstream_at N [] (end_at N p))
      go false e = refl
