-- The search: a walk over sets of places ("The search", its second paragraph).
use Prim.Native.Nat.{ℕ, zero, suc, ◌+◌}
use Rattle.std.specs.Prelude.{Bool, take, ltb, eqb}
use Rattle.std.proofs.Math.Bool.{true, false}
use mathlib.Core.List.{List, [], ◌∷◌, ◌++◌, map}
use Rattle.std.proofs.Math.Dec.{leb}
use Rattle.model.specs.Lists.{sum}
use Rattle.model.specs.Network.{Network}
use Rattle.model.specs.Sets.{place_numbers, allowed, set_total, saving}

-- a list in falling order
unfoldable pub insert : ℕ → List ℕ → List ℕ
insert x [] = x ∷ []
insert x (y ∷ ys) = elim (leb y x) [ true ↦ x ∷ y ∷ ys | false ↦ y ∷ insert x ys ]

unfoldable pub falling : List ℕ → List ℕ
unfolding insert
falling [] = []
falling (x ∷ xs) = insert x (falling xs)

-- the sum of the `r` largest of a list, of all of them if there are fewer
unfoldable pub largest : ℕ → List ℕ → ℕ
unfolding sum falling
largest r xs = sum (take r (falling xs))

-- what a walk has found: the best set with its total, the count of visits, and whether it is spent
pub record Found : Type 0 where
  pub members : List ℕ
  pub best : ℕ
  pub visits : ℕ
  pub spent : Bool

-- A walk over sets that `is_allowed` takes, where `total_of` gives a set's total and `saving_of` a place's saving, with at most
-- `limit` visits.
module _ (limit : ℕ) (total_of : List ℕ → ℕ) (is_allowed : List ℕ → Bool) (saving_of : ℕ → ℕ) where
  -- A visit of `S` is due. At the limit the walk is spent. Else the visit is counted, and `S` is best if its total is smaller.
  unfoldable pub visit : List ℕ → Found → Found
  visit S f =
      elim (eqb f.visits limit) [
        | true ↦ record { members = f.members; best = f.best; visits = f.visits; spent = true }
        | false ↦
            elim (ltb (total_of S) f.best) [
              | true ↦ record { members = S; best = total_of S; visits = suc f.visits; spent = f.spent }
              | false ↦ record { members = f.members; best = f.best; visits = suc f.visits; spent = f.spent }
            ]
      ]

  -- The total of `S`, less the `r` largest savings of the places `later`, is not below the best total: the savings are added
  -- on the other side, since the difference may be negative.
  unfoldable pub hopeless : ℕ → List ℕ → List ℕ → Found → Bool
  unfolding largest
  hopeless r S later f = leb (f.best + largest r (map saving_of later)) (total_of S)

  -- `S`, which may get `r` more members, is extended by each of the places `later` in rising order.
  unfoldable pub extend : ℕ → List ℕ → List ℕ → Found → Found
  unfolding visit hopeless
  extend r S [] f = f
  extend zero S (q ∷ later) f = f
  extend (suc r) S (q ∷ later) f =
      elim f.spent [
        | true ↦ f
        | false ↦
            elim (hopeless (suc r) S (q ∷ later) f) [
              | true ↦ f
              | false ↦
                  let T = S ++ (q ∷ []) in
                  elim (is_allowed T) [
                    | true ↦ extend (suc r) S later (extend r T later (visit T f))
                    | false ↦ extend (suc r) S later f
                  ]
            ]
      ]

  -- Before the first visit nothing is counted, and the empty set stands in for the best.
  unfoldable pub start : Found
  start = record { members = []; best = total_of []; visits = 0; spent = false }

  -- The empty set is visited first, then it is extended by at most `adds` of the places.
  unfoldable pub walk : ℕ → List ℕ → Found
  unfolding visit extend start
  walk adds places = extend adds [] places (visit [] start)

-- the search of a file
unfoldable pub search : Network → Found
unfolding walk set_total allowed saving place_numbers
search N = walk N.head.visits (λ S. set_total N S) (λ S. allowed N S) (λ p. saving N p) N.head.adds (place_numbers N)
