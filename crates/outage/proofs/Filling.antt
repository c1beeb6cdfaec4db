-- What is noted of the customers behind the lines, step by step.
use Prim.Native.Nat.{ℕ, ◌-◌, ◌≤◌}
use mathlib.Core.Path.{◌≡◌, refl, sym, ◌∙◌, subst}
use mathlib.Core.Bool.{false}
use mathlib.Core.Logic.{◌⊎◌, inl, inr, ⊎_elim}
use mathlib.Core.List.{Memᴰ}
use native.Mathlib.Decide.{ℕ_discrete}
use native.Mathlib.Omega.{arith}
use lib.ListN.{length, get_or, set}
use lib.Seq.{get_or-set_same, get_or-set_other}
use Rattle.std.specs.Prelude.{Some}
use Rattle.model.specs.Network.{Network}
use Rattle.model.specs.Paths.{line, End, is_open, station_at}
use Rattle.model.specs.Outage.{path_to_hv, customers_behind}
use Rattle.theory.specs.Reading.{Read}
use Rattle.theory.specs.Radial.{Rules}
use Rattle.theory.specs.Behind.{far, line_sum, line_sum-left}
use Rattle.tree.specs.Outwards.{near_end}
use Rattle.outage.specs.declared.Behind.{Behind}
use Rattle.outage.specs.Held.{customers_in}
use Rattle.outage.specs.Below.{Leaves, AtLine, Filled}
use Rattle.outage.proofs.Paths.{near-self, near-line, enough-self, beyond}

module _ (N : Network) where
  -- nothing stored
  pub filled_none : (P : End → Type 0) (old : Behind) → ((d : End) → P d → ⊥) → Filled N P old old
  filled_none P old h l i = inr (refl, λ d m p. h d p)

  pub filled-fewer : (P R : End → Type 0) (old new : Behind) → ((d : End) → R d → P d) → Filled N P old new → Filled N R old new
  filled-fewer P R old new h f l i = ⊎_elim (λ x. inl x) (λ x. inr (x.0, λ d m p. x.1 d m (h d p))) (f l i)

  -- one after the other
  pub filled-both : (P Q R : End → Type 0) (old mid new : Behind) → ((d : End) → R d → P d ⊎ Q d) → Filled N P old mid → Filled N Q mid new → Filled N R old new
  filled-both P Q R old mid new h f g l i = ⊎_elim (λ y. inl y)
      (λ y. ⊎_elim (λ x. inl (y.0 ∙ x)) (λ x. inr (y.0 ∙ x.0, λ d m p. ⊎_elim (λ q. x.1 d m q) (λ q. y.1 d m q) (h d p))) (f l i))
      (g l i)

  module _ (d : Read N) (r : Rules N) (l k : ℕ) (t : AtLine N l k) where
    -- the customers behind a line, one level down
    pub line-customers : customers_behind N (near_end N l) ≡ line_sum N k (near_end N l)
    line-customers = let n = near-self N d r l t.there in line_sum-left N d r k (near_end N l) n.closed n.path (enough-self N d r l k t)

    -- a line's own sum, after those of the lines beyond its far station
    pub filled-line : (P : End → Type 0) (old new : Behind) (sum : ℕ) → length N.lines ≤ length new.customers → sum ≡ line_sum N k (near_end N l)
        → ((g : End) → is_open N (far (near_end N l)) ≡ false → Leaves N (Some l) (station_at N (far (near_end N l))) g → P g) → Filled N P old new
        → Filled N (λ g. g ≡ near_end N l) old (record { customers = set new.customers (l - 1) sum })
    filled-line P old new sum n s h f m i = go (ℕ_discrete m l)
      where
        Done : ℕ → Type 0
        Done m = (get_or (set new.customers (l - 1) sum) (m - 1) 0 ≡ customers_behind N (near_end N m))
            ⊎ ((get_or (set new.customers (l - 1) sum) (m - 1) 0 ≡ customers_in old m) × ((g : End) → Memᴰ g (path_to_hv N (line m)) → g ≡ near_end N l → ⊥))

        own : (near_end N l).line ≡ l
        own = near-line N d r l t.there

        go : Dec (m ≡ l) → Done m
        go (yes p) = subst Done (sym p) (inl (get_or-set_same new.customers (l - 1) sum 0 (omega (arith, t.there.low, t.there.high)) ∙ s ∙ sym line-customers))
        go (no p) =
            let o = get_or-set_other new.customers (l - 1) (m - 1) sum 0 (omega (arith, t.there.low, i.low)) in
            ⊎_elim (λ x. inl (o ∙ x))
            (λ x. inr (
              o ∙ x.0,
              λ g j q.
                  let y = beyond N d r (near_end N l) (near-self N d r l t.there) m i.low i.high (λ z. p (z ∙ own)) (subst (λ z. Memᴰ z (path_to_hv N (line m))) q j) in
                  x.1 y.1 y.2 (h y.1 y.0 (subst (λ n. Leaves N (Some n) (station_at N (far (near_end N l))) y.1) own y.3)),
            ))
            (f m i)
