-- Changes of an outlook that can be undone: what is changed is kept in a row of prospects.
use Rattle.std.specs.Prelude.{ℕ, ◌+◌, ◌*◌, ◌≤◌, ◌<◌, ◌≡◌, List, length, get_or}
use Rattle.starts.specs.declared.Prospect.{Prospect}
use Rattle.starts.specs.declared.Outlook.{Outlook}
use Rattle.starts.specs.Outlook.{no_prospect, prospect_of}

-- what is kept of a place in a row, of 65
abbrev pub kept_at : List Prospect → ℕ → ℕ → Prospect
kept_at rows row p = get_or rows (row * 65 + p) no_prospect

-- the rows before one are as they were
abbrev pub SameBefore : ℕ → List Prospect → List Prospect → Type 0
SameBefore row old new = (k : ℕ) → k < row * 65 → get_or new k no_prospect ≡ get_or old k no_prospect

-- an outlook has room for each place of a list
abbrev pub AllFit : List ℕ → Type 0
AllFit ps = (i : ℕ) → i < length ps → get_or ps i 0 ≤ 64

-- a place has the same prospect in two outlooks
abbrev pub Same : Outlook → Outlook → ℕ → Type 0
Same old new p = prospect_of new p ≡ prospect_of old p

-- The outlook was `old` but for the places that a list has at the indices from `a` on and before `b`, whose old prospects are kept in
-- a row.
pub record Changed (ps : List ℕ) (row a b : ℕ) (old outlook : Outlook) (rows : List Prospect) : Type 0 where
  pub same : (p : ℕ) → p ≤ 64 → ((i : ℕ) → a ≤ i → i < b → get_or ps i 0 ≡ p → ⊥) → Same old outlook p
  pub kept : (i : ℕ) → a ≤ i → i < b → kept_at rows row (get_or ps i 0) ≡ prospect_of old (get_or ps i 0)
