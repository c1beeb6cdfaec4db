-- What the walk asks of its totals, savings and allowed sets, and what it then answers.
use Rattle.std.specs.Prelude.{◌≡◌, Bool, true, false, ◌↔◌, ◌⊎◌, ℕ, ◌+◌, ◌≤◌, length}
use mathlib.Core.List.{List, [], ◌++◌, map, Sublistᴰ}
use Rattle.model.specs.Lists.{sum, keep}
use Rattle.model.specs.Sets.{sets_up_to}
use Rattle.model.specs.Walk.{Found}
use Rattle.model.specs.Demand.{Before}

-- The empty set is allowed, an allowed set has at most `adds` members, the start of an allowed set is allowed, and what is
-- added to a set takes no more off its total than the savings of the added places.
pub record Asks (total_of : List ℕ → ℕ) (is_allowed : List ℕ → Bool) (saving_of : ℕ → ℕ) (adds : ℕ) (places : List ℕ) : Type 0 where
  pub none : is_allowed [] ≡ true
  pub few : (S : List ℕ) → is_allowed S ≡ true → length S ≤ adds
  pub part : (S T : List ℕ) → Sublistᴰ (S ++ T) places → is_allowed (S ++ T) ≡ true → is_allowed S ≡ true
  pub saves : (S T : List ℕ) → Sublistᴰ (S ++ T) places → is_allowed (S ++ T) ≡ true → total_of S ≤ total_of (S ++ T) + sum (map saving_of T)

-- an allowed set of the places
abbrev pub Fine : (List ℕ → Bool) → List ℕ → List ℕ → Type 0
Fine is_allowed places S = Sublistᴰ S places × (is_allowed S ≡ true)

pub record Answers (limit : ℕ) (total_of : List ℕ → ℕ) (is_allowed : List ℕ → Bool) (adds : ℕ) (places : List ℕ) (f : Found) : Type 0 where
  -- the answered set is allowed and has the answered total
  pub allows : Fine is_allowed places f.members
  pub exact : total_of f.members ≡ f.best
  -- the visits are at most the number of allowed sets and the limit
  pub counted : f.visits ≤ length (keep is_allowed (sets_up_to adds places))
  pub limited : f.visits ≤ limit
  -- the walk is spent at the limit only, and never where the limit is at least the number of allowed sets
  pub finishes : length (keep is_allowed (sets_up_to adds places)) ≤ limit → f.spent ≡ false
  pub spent_at_limit : f.spent ≡ true → f.visits ≡ limit
  -- not spent, the answered total is an allowed set's total exactly when every allowed set has at least that set's total
  pub least : f.spent ≡ false → (T : List ℕ) → Fine is_allowed places T → (f.best ≡ total_of T) ↔ ((U : List ℕ) → Fine is_allowed places U → total_of T ≤ total_of U)
  -- not spent, of all allowed sets with the smallest total the answered one is the first
  pub first_of_least : f.spent ≡ false → (T : List ℕ) → Fine is_allowed places T → total_of T ≡ f.best → (T ≡ f.members) ⊎ Before f.members T
