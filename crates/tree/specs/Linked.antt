-- Lists of the closed ends at each station, by codes of ends: 1 and 2 are the ends of line 1, 3 and 4 those of line 2. `nexts` has for
-- each end the code of the next one in its list.
use Rattle.std.specs.Prelude.{ℕ, zero, suc, ◌+◌, ◌*◌, ◌-◌, ◌/◌, ◌%◌, ◌≤◌, ◌<◌, ◌≡◌, Option, None, Some, List, [], ◌∷◌, eqb, get_or}
use Rattle.model.specs.Lists.{keep}
use Rattle.model.specs.Network.{Network}
use Rattle.model.specs.Paths.{End, station_at, closed_ends}

abbrev pub end_code : End → ℕ
end_code e = 2 * e.line + e.side - 2

abbrev pub code_end : ℕ → End
code_end c = record { line = (c + 1) / 2; side = 2 - c % 2 }

-- a line that there is room for
pub record LineHeld (l : ℕ) : Type 0 where
  pub low : 1 ≤ l
  pub high : l ≤ 768

-- a code that there is room for, and its end
pub record EndHeld (c : ℕ) (e : End) : Type 0 where
  pub low : 1 ≤ c
  pub high : c ≤ 1536
  pub end : code_end c ≡ e

-- the list that begins with a code, or with none, has these ends; their codes rise
pub data Chain (nexts : List (Option ℕ)) : Option ℕ → List End → Type 0 where
  over : Chain nexts None []
  link : {c : ℕ} {es : List End} → 1 ≤ c → c ≤ 1536 → ((d : ℕ) → get_or nexts (c - 1) None ≡ Some d → c < d) → Chain nexts (get_or nexts (c - 1) None) es
      → Chain nexts (Some c) (code_end c ∷ es)

-- a list begins with a code, or with none
abbrev pub Listed : List (Option ℕ) → Option ℕ → Type 0
Listed nexts o = (es : List End) × Chain nexts o es

-- the ends of the list that begins with a code, or with none, at most so many
abbrev pub along : ℕ → List (Option ℕ) → Option ℕ → List End
along zero nexts o = []
along (suc k) nexts None = []
along (suc k) nexts (Some c) = code_end c ∷ along k nexts (get_or nexts (c - 1) None)

-- the closed ends at a station
abbrev pub ends_at : Network → ℕ → List End
ends_at N s = keep (λ e. eqb (station_at N e) s) (closed_ends N)
