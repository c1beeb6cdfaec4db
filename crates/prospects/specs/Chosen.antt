-- The set of places that a walk has chosen, and the outlook that it is read from: the set's own, or that of the set without its last
-- member, with which the prospects change by how the two places stand to each other.
use Rattle.std.specs.Prelude.{ℕ, ◌+◌, ◌≤◌, ◌<◌, ◌≡◌, false, ◌⊎◌, Option, None, Some, List, [], ◌∷◌, ◌++◌, length}
use Rattle.model.specs.Network.{Network}
use Rattle.model.specs.Rules.{series_broken}
use Rattle.model.specs.Sets.{with_breakers}
use Rattle.theory.specs.Reading.{All}
use Rattle.theory.specs.Best.{Accepted}
use Rattle.outage.specs.Held.{HoldsCustomers}
use Rattle.relations.specs.declared.Relations.{Relations}
use Rattle.relations.specs.Related.{HoldsRelations, HoldsLater, later_in}
use Rattle.starts.specs.declared.Outlook.{Outlook}
use Rattle.starts.specs.Outlook.{Values, HoldsOutlook, no_prospect, prospect_of}
use Rattle.prospects.specs.declared.Tables.{Tables}
use Rattle.prospects.specs.declared.Choice.{Choice}
use Rattle.prospects.specs.declared.Prospects.{Prospects}
use Rattle.prospects.specs.Changes.{kept_at, Changed, SameBefore}

-- the relations of the places of an accepted file, and the customers behind each of its lines
pub record HoldsTables (t : Tables) : Type 0 where
  pub accepted : Accepted t.net.now
  pub related : HoldsRelations t.net.now t.relations.now
  pub behind : HoldsCustomers t.net.now t.behind.now

-- there are no prospects, of no set
pub record IsUnfilled (x : Prospects) : Type 0 where
  pub outlook : (p : ℕ) → prospect_of x.outlook p ≡ no_prospect
  pub kept : (row p : ℕ) → kept_at x.kept row p ≡ no_prospect

-- every member is a place before q
abbrev pub Before : ℕ → List ℕ → Type 0
Before q S = All (λ p. (1 ≤ p) × (p < q)) S

-- a set whose last member is `last`, 0 for the empty set
pub record Chosen (N : Network) (relations : Relations) (S : List ℕ) (last : ℕ) : Type 0 where
  pub accepted : Accepted N
  pub related : HoldsRelations N relations
  pub high : last ≤ length N.places
  pub members : Before (last + 1) S
  pub series : series_broken (with_breakers N S) ≡ false

-- the set without its last member
pub record Without (S : List ℕ) (last : ℕ) : Type 0 where
  pub rest : List ℕ
  pub low : 1 ≤ last
  pub is : S ≡ rest ++ (last ∷ [])
  pub before : Before last rest

-- the outlook is the set's own, where nothing is pending, or that of the set without its last member, which is pending
abbrev pub Pending : Network → Outlook → List ℕ → ℕ → Option ℕ → Type 0
Pending N outlook S last pending = ((pending ≡ None) × HoldsOutlook N S (last + 1) outlook) ⊎ ((pending ≡ Some last) × (w : Without S last) × HoldsOutlook N w.rest last outlook)

-- a place after the last member, with the prospects that the outlook has of the two
pub record Later (N : Network) (relations : Relations) (outlook : Outlook) (S : List ℕ) (pending : Option ℕ) (place : ℕ) : Type 0 where
  pub last : ℕ
  pub chosen : Chosen N relations S last
  pub low : last < place
  pub high : place ≤ length N.places
  pub values : ((pending ≡ None) × Values N S place outlook) ⊎ ((pending ≡ Some last) × (w : Without S last) × Values N w.rest last outlook × Values N w.rest place outlook)

abbrev pub LaterIn : Choice → ℕ → Type 0
LaterIn c place = Later c.tables.net.now c.tables.relations.now c.outlook.now c.members.now c.pending place

-- the outlook is that of the set without its last member, the related later places are listed, and there is a row for what changes
pub record Entering (N : Network) (relations : Relations) (S : List ℕ) (row last : ℕ) (old : Prospects) : Type 0 where
  pub chosen : Chosen N relations S last
  pub later : HoldsLater relations (length N.places)
  pub without : Without S last
  pub holds : HoldsOutlook N without.rest last old.outlook
  pub few : row ≤ 15

-- the outlook is the set's own, and what changed is kept in a row
pub record Entered (N : Network) (relations : Relations) (S : List ℕ) (row last : ℕ) (old new : Prospects) : Type 0 where
  pub own : HoldsOutlook N S (last + 1) new.outlook
  pub changed : Changed (later_in relations last) row 0 (length (later_in relations last)) old.outlook new.outlook new.kept
  pub below : SameBefore row old.kept new.kept

-- the outlook is as it was before the prospects of the places of a list were changed
pub record Undone (ps : List ℕ) (row : ℕ) (from new : Prospects) : Type 0 where
  pub back : (old : Outlook) → Changed ps row 0 (length ps) old from.outlook from.kept → new.outlook ≡ old
  pub kept : new.kept ≡ from.kept
