-- The search for the next place that a set may get.
use Prim.Native.Nat.{ℕ, ◌+◌, ◌-◌, ◌≤◌}
use mathlib.Core.Path.{◌≡◌, sym, ap, ◌∙◌}
use mathlib.Core.Bool.{true, false}
use mathlib.Core.List.{List, [], ◌∷◌, ◌++◌}
use native.Mathlib.Omega.{arith}
use lib.ListN.{length}
use Rattle.model.specs.Network.{Network}
use Rattle.model.specs.Outage.{total}
use Rattle.model.specs.Sets.{allowed}
use Rattle.model.specs.Walk.{Found}
use Rattle.walks.specs.Runs.{on-false}
use Rattle.search.specs.Walking.{extended, tried, Trying, Barren, Promising, Seeking, Sought}
use Rattle.std.specs.Prelude.{Option, None, Some}
use Rattle.relations.specs.declared.Relations.{Relations}
use Rattle.bounds.specs.declared.Bounds.{Bounds}
use Rattle.starts.specs.declared.Outlook.{Outlook}
use Rattle.search.specs.declared.Progress.{Progress}
use Rattle.search.specs.declared.Current.{Current}
use Rattle.search.proofs.Bounding.{barren, promising}

-- the places from one up to another are passed over
pub record Passed (N : Network) (S : List ℕ) (from left : ℕ) (p : Progress) (place : ℕ) : Type 0 where
  pub low : from ≤ place
  pub high : place ≤ length N.places + 1
  pub same : (f : Found) → f.spent ≡ p.spent → f.best ≡ total N - p.saved.0 → extended N left S place f ≡ extended N left S from f

module _ {N : Network} {relations : Relations} {bounds : Bounds} {outlook : Outlook} {S : List ℕ} {at : Current} {pending : Option ℕ} {from left : ℕ} {p : Progress} (x : Seeking N relations bounds outlook S at pending from left p) where
  pub saves : at.saved.0 ≤ total N
  saves = omega (arith, x.standing.saved)

  pub few : left ≤ 16
  few = omega (arith, x.few, x.standing.chosen.accepted.read.head.adds.high)

  module _ {place : ℕ} (g : Passed N S from left p place) where
    -- the walk goes no further
    pub sought-none : Barren N p.spent p.saved.0 at.saved.0 place left → Sought N S at.saved.0 from left p None
    sought-none b = λ f e k. sym (barren N S left place f at.saved.0 x.counted.saved k x.standing.saved (rw e b)) ∙ g.same f e k

    module _ (h : Promising N p.spent p.saved.0 at.saved.0 place left) where
      pub trying : Trying N relations outlook S at pending place
      trying = record { standing = x.standing; low = omega (arith, x.low, g.low); high = h.high; few = omega (arith, x.few, h.some) }

      -- a place that the set may not get
      pub passed-one : allowed N (S ++ (place ∷ [])) ≡ false → Passed N S from left p (place + 1)
      unfolding tried
      passed-one b = record {
        low = omega (arith, g.low);
        high = omega (arith, h.high);
        same = λ f e k.
            ap (extended N left S (place + 1)) (sym (on-false _ _ b))
            ∙ sym (promising N S left place f at.saved.0 x.counted.saved k x.standing.saved (rw e h))
            ∙ g.same f e k;
      }

      -- one that it may
      pub sought : allowed N (S ++ (place ∷ [])) ≡ true → Sought N S at.saved.0 from left p (Some place)
      sought b = record { low = g.low; promising = h; allowed = b; same = g.same }
