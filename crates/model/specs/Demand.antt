-- The specification's third demand, demand 3, whole: what holds of every answer of Search on an accepted file.
use Rattle.std.specs.Prelude.{ℕ, ◌≤◌, ◌<◌, ◌≡◌, Bool, true, false, not, ◌↔◌, ◌⊎◌, take}
use mathlib.Core.List.{List, [], ◌∷◌, Sublistᴰ}
use Rattle.model.specs.Answer.{given}
use Rattle.model.specs.Network.{Network}
use Rattle.model.specs.Rules.{accepted}
use Rattle.model.specs.Sets.{place_numbers, allowed, set_total, allowed_count}
use Rattle.model.specs.Walk.{search}
use Rattle.std.specs.Prelude.{Result, Ok, Err}
use Rattle.model.specs.declared.Outcome.{Outcome}
use Rattle.model.specs.declared.Refusal.{Refusal}

-- an allowed set of the file's places: some of their numbers, rising
pub record AllowedSet (N : Network) (S : List ℕ) : Type 0 where
  pub places : Sublistᴰ S (place_numbers N)
  pub allows : allowed N S ≡ true

-- Dictionary order of place numbers: a set before its extensions, otherwise by the first member that differs.
pub data Before : List ℕ → List ℕ → Type 0 where
  extended : {q : ℕ} {T : List ℕ} → Before [] (q ∷ T)
  smaller : {p q : ℕ} {S T : List ℕ} → p < q → Before (p ∷ S) (q ∷ T)
  further : {p q : ℕ} {S T : List ℕ} → p ≡ q → Before S T → Before (p ∷ S) (q ∷ T)

-- What holds of the answered set `S` with the answered total and visits.
pub record Answered (N : Network) (finished : Bool) (S : List ℕ) (total visits : ℕ) : Type 0 where
  -- finished or spent, the answered set is allowed and has the answered total
  pub is_allowed : AllowedSet N S
  pub has_total : set_total N S ≡ total
  -- it is the walk's best set
  pub walk_best : S ≡ (search N).members
  -- the visits are the walk's, and at most the number of allowed sets and the limit
  pub walk_visits : visits ≡ (search N).visits
  pub visits_allowed : visits ≤ allowed_count N
  pub visits_limited : visits ≤ N.head.visits
  -- it finishes exactly when the walk does, and whenever the limit is at least the number of allowed sets; it is spent at the limit only
  pub walk_finished : finished ≡ not (search N).spent
  pub finishes : allowed_count N ≤ N.head.visits → finished ≡ true
  pub spent_at_limit : finished ≡ false → visits ≡ N.head.visits
  -- finished, the answered total is an allowed set's total exactly when every allowed set has at least that set's total
  pub least : finished ≡ true → (T : List ℕ) → AllowedSet N T → (total ≡ set_total N T) ↔ ((U : List ℕ) → AllowedSet N U → set_total N T ≤ set_total N U)
  -- finished, of all allowed sets with the smallest total the answered one is the first
  pub first_of_least : finished ≡ true → (T : List ℕ) → AllowedSet N T → set_total N T ≡ total → (T ≡ S) ⊎ Before S T

-- the same of a declared answer, with its set at the start of the buffer
unfoldable pub Answers : Network → Result Outcome Refusal → List ℕ → Type 0
Answers N (Ok o) buffer = Answered N o.finished (take o.members buffer) o.total o.visits
Answers N (Err r) buffer = Unit

-- demand 3 of Search, for a file, its answer and the buffer that it leaves
unfoldable pub Demand3 : List ℕ → Result Outcome Refusal → List ℕ → Type 0
unfolding Answers
Demand3 file answer buffer = (N : Network) → accepted file ≡ given N → Answers N answer buffer
