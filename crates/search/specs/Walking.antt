-- The walk over sets of places: what it has found, what it reads, and where it stands.
use Rattle.std.specs.Prelude.{ℕ, ◌+◌, ◌-◌, ◌≤◌, ◌<◌, ◌≡◌, Bool, true, false, ◌⊎◌, Option, None, Some, List, [], ◌∷◌, ◌++◌, map, length, take}
use Rattle.std.specs.Option.{unwrap_or}
use Rattle.model.specs.Lists.{sum}
use Rattle.model.specs.Network.{Network}
use Rattle.model.specs.Outage.{total}
use Rattle.model.specs.Sets.{place_at, allowed, set_total, saving}
use Rattle.model.specs.Walk.{Found, visit, extend}
use Rattle.theory.specs.Best.{Accepted}
use Rattle.bounds.specs.declared.Bounds.{Bounds}
use Rattle.bounds.specs.Bounds.{places_from, most_saved, HoldsBounds}
use Rattle.relations.specs.declared.Relations.{Relations}
use Rattle.relations.specs.Related.{HoldsLater, later_in, row_count}
use Rattle.starts.specs.declared.Outlook.{Outlook}
use Rattle.starts.specs.Outlook.{HoldsOutlook}
use Rattle.prospects.specs.declared.Tables.{Tables}
use Rattle.prospects.specs.declared.Choice.{Choice}
use Rattle.prospects.specs.Changes.{AllFit, SameBefore}
use Rattle.prospects.specs.Chosen.{HoldsTables, Chosen, Pending, Undone}
use Rattle.prospects.specs.Chosen as chosen
use Rattle.search.specs.declared.Progress.{Progress}
use Rattle.search.specs.declared.Current.{Current}
use Rattle.search.specs.declared.Course.{Course}
use Rattle.search.specs.declared.Walk.{Walk}

-- what a walk has found: the best set's total is the file's less what it saves
abbrev pub found_in : Network → Progress → Found
found_in N p = record { members = p.best.items; best = total N - p.saved.0; visits = p.visits; spent = p.spent }

-- a walk before its first visit
pub record Begun (p : Progress) : Type 0 where
  pub best : p.best.items ≡ []
  pub saved : p.saved.0 ≡ 0
  pub visits : p.visits ≡ 0
  pub spent : p.spent ≡ false

-- the defined visit and walk of a file
abbrev pub visited : Network → List ℕ → Found → Found
visited N S f = visit N.head.visits (λ T. set_total N T) (λ T. allowed N T) (λ p. saving N p) S f

abbrev pub extended : Network → ℕ → List ℕ → ℕ → Found → Found
extended N left S from f = extend N.head.visits (λ T. set_total N T) (λ T. allowed N T) (λ p. saving N p) left S (places_from N from) f

-- the set with one more place is visited and extended, if it is allowed
unfoldable pub tried : Network → ℕ → List ℕ → ℕ → Found → Found
tried N left S q f =
    let T = S ++ (q ∷ []) in
    elim (allowed N T) [ true ↦ extended N left T (q + 1) (visited N T f) | false ↦ f ]

-- the best set saves no more than the file's total, it has room, the visits are within the limit, and that is one a file can have
pub record Counted (N : Network) (p : Progress) : Type 0 where
  pub saved : p.saved.0 ≤ total N
  pub count : length p.best.items ≤ 16
  pub visits : p.visits ≤ N.head.visits
  pub limit : N.head.visits ≤ 1000000000

-- the number of a set's last member, 0 for the empty set
abbrev pub number : Option ℕ → ℕ
number last = unwrap_or last 0

-- a choice is a course's set
pub record Chooses (t : Tables) (course : Course) (pending : Option ℕ) (c : Choice) : Type 0 where
  pub tables : c.tables ≡ t
  pub outlook : c.outlook.now ≡ course.prospects.outlook
  pub members : c.members.now ≡ course.members.items
  pub is-pending : c.pending ≡ pending

-- the set that the walk stands at
pub record Standing (N : Network) (relations : Relations) (outlook : Outlook) (S : List ℕ) (at : Current) (pending : Option ℕ) : Type 0 where
  pub chosen : Chosen N relations S (number at.last)
  pub is-pending : Pending N outlook S (number at.last) pending
  pub saved : at.saved.0 + set_total N S ≡ total N
  pub cost : at.cost ≡ sum (map (λ p. (place_at N p).cost) S)
  pub hours : at.hours ≡ sum (map (λ p. (place_at N p).hours) S)
  pub affordable : at.cost ≤ N.head.money
  pub timely : at.hours ≤ N.head.hours

-- the set may get one more place
pub record Trying (N : Network) (relations : Relations) (outlook : Outlook) (S : List ℕ) (at : Current) (pending : Option ℕ) (place : ℕ) : Type 0 where
  pub standing : Standing N relations outlook S at pending
  pub low : number at.last < place
  pub high : place ≤ length N.places
  pub few : length S + 1 ≤ N.head.adds

abbrev pub TryingIn : Tables → Course → Current → Option ℕ → ℕ → Type 0
TryingIn t course at pending place = Trying t.net.now t.relations.now course.prospects.outlook course.members.items at pending place

-- where the walk stands with one more place
pub record Next (N : Network) (S : List ℕ) (at : Current) (place : ℕ) (next : Current) : Type 0 where
  pub last : next.last ≡ Some place
  pub saved : next.saved.0 + set_total N (S ++ (place ∷ [])) ≡ total N
  pub cost : next.cost ≡ sum (map (λ p. (place_at N p).cost) (S ++ (place ∷ [])))
  pub hours : next.hours ≡ sum (map (λ p. (place_at N p).hours) (S ++ (place ∷ [])))

-- a set that may get `left` of the places from `from` on: none, or the walk is spent, or none can save more than the best set
abbrev pub Barren : Network → Bool → ℕ → ℕ → ℕ → ℕ → Type 0
Barren N spent most saved from left = (left ≡ 0) ⊎ ((length N.places < from) ⊎ ((spent ≡ true) ⊎ (saved + most_saved N left from ≤ most)))

-- some are left, the walk is not spent, and by the bound they may save more
pub record Promising (N : Network) (spent : Bool) (most saved from left : ℕ) : Type 0 where
  pub some : left ≡ 0 → ⊥
  pub high : from ≤ length N.places
  pub unspent : spent ≡ false
  pub hope : most < saved + most_saved N left from

-- by the bounds of a walk, of an accepted file, a set that saves so much and may get `left` more is compared with the best
pub record Weighing (w : Walk) (p : Progress) (saved left : ℕ) : Type 0 where
  pub accepted : Accepted w.tables.net.now
  pub table : HoldsBounds w.tables.net.now w.bounds.now
  pub counted : Counted w.tables.net.now p
  pub saves : saved ≤ total w.tables.net.now
  pub few : left ≤ 16

abbrev pub BarrenIn : Walk → Progress → ℕ → ℕ → ℕ → Type 0
BarrenIn w p saved from left = Barren w.tables.net.now p.spent p.saved.0 saved from left

abbrev pub PromisingIn : Walk → Progress → ℕ → ℕ → ℕ → Type 0
PromisingIn w p saved from left = Promising w.tables.net.now p.spent p.saved.0 saved from left

-- the set may get `left` more, and the places from `from` on are tried
pub record Seeking (N : Network) (relations : Relations) (bounds : Bounds) (outlook : Outlook) (S : List ℕ) (at : Current) (pending : Option ℕ) (from left : ℕ) (p : Progress) : Type 0 where
  pub standing : Standing N relations outlook S at pending
  pub table : HoldsBounds N bounds
  pub counted : Counted N p
  pub low : number at.last < from
  pub high : from ≤ length N.places + 1
  pub few : length S + left ≡ N.head.adds

abbrev pub SeekingIn : Walk → Course → Current → Option ℕ → ℕ → ℕ → Type 0
SeekingIn w course at pending from left =
    Seeking w.tables.net.now w.tables.relations.now w.bounds.now course.prospects.outlook course.members.items at pending from left course.progress

-- The next place that the set may get and that may do better than the best: without the places before it the walk finds the same. With
-- none, the walk finds nothing more.
pub record Found-next (N : Network) (S : List ℕ) (saved from left : ℕ) (p : Progress) (next : ℕ) : Type 0 where
  pub low : from ≤ next
  pub promising : Promising N p.spent p.saved.0 saved next left
  pub allowed : allowed N (S ++ (next ∷ [])) ≡ true
  pub same : (f : Found) → f.spent ≡ p.spent → f.best ≡ total N - p.saved.0 → extended N left S next f ≡ extended N left S from f

abbrev pub Sought : Network → List ℕ → ℕ → ℕ → ℕ → Progress → Option ℕ → Type 0
Sought N S saved from left p None = (f : Found) → f.spent ≡ p.spent → f.best ≡ total N - p.saved.0 → f ≡ extended N left S from f
Sought N S saved from left p (Some next) = Found-next N S saved from left p next

-- what a visit leaves: what it found, and all else
pub record Visits (N : Network) (old new : Course) : Type 0 where
  pub counted : Counted N new.progress
  pub found : found_in N new.progress ≡ visited N old.members.items (found_in N old.progress)
  pub members : new.members ≡ old.members
  pub prospects : new.prospects ≡ old.prospects

-- the members but the last
abbrev pub rest : List ℕ → List ℕ
rest S = take (length S - 1) S

-- the outlook of the set without its last member becomes its own: nothing changes where nothing is pending, and otherwise it is entered
pub record Entering (t : Tables) (course : Course) (pending : Option ℕ) : Type 0 where
  pub some : 1 ≤ length course.members.items
  pub entering : (last : ℕ) → pending ≡ Some last → chosen.Entering t.net.now t.relations.now (rest course.members.items) (length (rest course.members.items)) last course.prospects

pub record OwnNow (t : Tables) (pending : Option ℕ) (old new : Course) : Type 0 where
  pub same : pending ≡ None → new.prospects ≡ old.prospects
  pub entered : (last : ℕ) → pending ≡ Some last → chosen.Entered t.net.now t.relations.now (rest old.members.items) (length (rest old.members.items)) last old.prospects new.prospects
  pub members : new.members ≡ old.members
  pub progress : new.progress ≡ old.progress

-- the changes of entering a set are undone if it was entered: if nothing is pending of a set with a last member
abbrev pub Leaving : Tables → Option ℕ → Option ℕ → Course → Type 0
Leaving t last pending course = (l : ℕ) → last ≡ Some l → pending ≡ None
    → (length course.members.items ≤ 15) × (1 ≤ l) × (l ≤ row_count t.relations.now) × AllFit (later_in t.relations.now l)

pub record UndoneIn (t : Tables) (last pending : Option ℕ) (old new : Course) : Type 0 where
  pub undone : (l : ℕ) → last ≡ Some l → pending ≡ None → Undone (later_in t.relations.now l) (length old.members.items) old.prospects new.prospects
  pub empty : last ≡ None → new.prospects ≡ old.prospects
  pub without : (l : ℕ) → pending ≡ Some l → new.prospects ≡ old.prospects
  pub members : new.members ≡ old.members
  pub progress : new.progress ≡ old.progress

-- the set may get `left` more of the places from `from` on
pub record Extending (w : Walk) (course : Course) (at : Current) (from left : ℕ) : Type 0 where
  pub tables : HoldsTables w.tables
  pub later : HoldsLater w.tables.relations.now (length w.tables.net.now.places)
  pub table : HoldsBounds w.tables.net.now w.bounds.now
  pub standing : Standing w.tables.net.now w.tables.relations.now course.prospects.outlook course.members.items at at.last
  pub counted : Counted w.tables.net.now course.progress
  pub low : number at.last < from
  pub high : from ≤ length w.tables.net.now.places + 1
  pub few : length course.members.items + left ≡ w.tables.net.now.head.adds

-- what a walk leaves: what it found, and the set, the outlook and the rows before the set's own as they were
pub record Left (N : Network) (f : Found) (old new : Course) : Type 0 where
  pub found : found_in N new.progress ≡ f
  pub counted : Counted N new.progress
  pub members : new.members.items ≡ old.members.items
  pub outlook : new.prospects.outlook ≡ old.prospects.outlook
  pub kept : SameBefore (length old.members.items) old.prospects.kept new.prospects.kept

-- before the walk
pub record Starting (w : Walk) (course : Course) : Type 0 where
  pub tables : HoldsTables w.tables
  pub later : HoldsLater w.tables.relations.now (length w.tables.net.now.places)
  pub table : HoldsBounds w.tables.net.now w.bounds.now
  pub holds : HoldsOutlook w.tables.net.now [] 1 course.prospects.outlook
