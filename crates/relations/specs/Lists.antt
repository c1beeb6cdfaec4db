-- Lists of the later places that each place is related to.
use Rattle.std.specs.Prelude.{ℕ, ◌+◌, ◌*◌, ◌<◌, ◌≡◌, Bool, true, false, List, length, get_or}
use Rattle.relations.specs.declared.Relation.{Relation}
use Rattle.relations.specs.declared.Relation.TheVariants.{Apart, Behind, Above}

abbrev pub is_related : Relation → Bool
is_related Apart = false
is_related Behind = true
is_related Above = true

-- how place p stands to place q: at p in row q, of 65
abbrev pub relation_at : List Relation → ℕ → ℕ → Relation
relation_at between q p = get_or between (q * 65 + p) Apart

-- places after q and before `end`, rising
pub record Row (ps : List ℕ) (q end : ℕ) : Type 0 where
  pub few : length ps + q < end
  pub later : (i : ℕ) → i < length ps → (q < get_or ps i 0) × (get_or ps i 0 < end)
  pub rising : (i j : ℕ) → i < j → j < length ps → get_or ps i 0 < get_or ps j 0

-- place p is among them
pub record InRow (ps : List ℕ) (p : ℕ) : Type 0 where
  pub at : ℕ
  pub high : at < length ps
  pub is : get_or ps at 0 ≡ p

-- they are the places after q and before `end` that q is related to
pub record Listed (between : List Relation) (q end : ℕ) (ps : List ℕ) : Type 0 where
  pub row : Row ps q end
  pub only : (i : ℕ) → i < length ps → relation_at between q (get_or ps i 0) ≡ Apart → ⊥
  pub all : (p : ℕ) → q < p → p < end → (relation_at between q p ≡ Apart → ⊥) → InRow ps p
