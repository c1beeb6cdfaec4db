-- How a tree grows: the lists of closed ends from the last line to the first, and the queue of lines that goes outwards from the HV
-- stations. The lines of the queue have been reached, and the near end and the feeding line of each are noted.
use Rattle.std.specs.Prelude.{ℕ, ◌+◌, ◌*◌, ◌-◌, ◌≤◌, ◌<◌, ◌≡◌, true, false, not, Bool, Option, None, Some, ◌⊎◌, eqb, length, get_or, set}
use mathlib.Core.List.{List, [], ◌∷◌, ◌++◌, map, Memᴰ}
use Rattle.model.specs.Lists.{keep, numbers}
use Rattle.model.specs.Network.{Network}
use Rattle.model.specs.Paths.{line, End, is_open, station_at, is_hv}
use Rattle.graphs.specs.Graph.{NoRepeat}
use Rattle.theory.specs.Radial.{In}
use Rattle.theory.specs.Behind.{far}
use Rattle.network.specs.View.{side_of}
use Rattle.tree.specs.Linked.{code_end, LineHeld, Chain}
use Rattle.tree.specs.Outwards.{near_end, feeder, fed_by}
use Rattle.tree.specs.Held.{noted_near, noted_feeder}
use Rattle.tree.specs.declared.Lists.{Lists}
use Rattle.tree.specs.declared.Feed.{Feed}
use Rattle.tree.specs.declared.Supply.{Supply}

-- ── the lists of closed ends ──
-- the closed ends whose codes are above c, and those of them at a station
abbrev pub closed_above : Network → ℕ → List End
closed_above N c = keep (λ e. not (is_open N e)) (map code_end (numbers (c + 1) (2 * length N.lines - c)))

abbrev pub at_above : Network → ℕ → ℕ → List End
at_above N s c = keep (λ e. eqb (station_at N e) s) (closed_above N c)

-- each station's list has the closed ends at it whose codes are above c
pub record LinkedAbove (N : Network) (c : ℕ) (x : Lists) : Type 0 where
  pub lists : (s : ℕ) → 1 ≤ s → s ≤ length N.stations → Chain x.nexts (get_or x.firsts (s - 1) None) (at_above N s c)
  pub above : (s : ℕ) → 1 ≤ s → s ≤ length N.stations → (d : ℕ) → get_or x.firsts (s - 1) None ≡ Some d → c < d

-- ── one list of ends ──
-- whether an end is of the line that feeds its station
abbrev pub of_feeder : Option ℕ → End → Bool
of_feeder None e = false
of_feeder (Some l) e = eqb e.line l

-- the ends of a list but for that of the line that feeds their station
abbrev pub leaving : Option ℕ → List End → List End
leaving fed es = keep (λ e. not (of_feeder fed e)) es

-- what is noted of the line of an end that is its near end
abbrev pub feed_of : Option ℕ → End → Feed
feed_of fed e = record { side = side_of e.side; feeder = fed }

-- what is noted when the lines of some ends are added
unfoldable pub fed_after : Option ℕ → List Feed → List End → List Feed
fed_after fed lines [] = lines
fed_after fed lines (e ∷ es) = fed_after fed (set lines (e.line - 1) (feed_of fed e)) es

-- there is room for the lines of the ends in a list
pub record Room (y : Supply) (ends : List End) (fed : Option ℕ) : Type 0 where
  pub lines : (e : End) → Memᴰ e ends → LineHeld e.line
  pub fits : length y.order.items + length (leaving fed ends) ≤ 768

-- the lines of these ends are added
pub record Added (es : List End) (fed : Option ℕ) (old new : Supply) : Type 0 where
  pub feeds : new.lines ≡ fed_after fed old.lines es
  pub orders : new.order.items ≡ old.order.items ++ map (λ e. e.line) es

-- ── the queue ──
-- the lines reached are those whose near station is one of `Done`; each comes after the one that feeds it
pub record Laid (N : Network) (Done : ℕ → Type 0) (ls : List ℕ) : Type 0 where
  pub inside : (l : ℕ) → Memᴰ l ls → In N (line l)
  pub near : (l : ℕ) → Memᴰ l ls → Done (station_at N (near_end N l))
  pub all : (l : ℕ) → In N (line l) → Done (station_at N (near_end N l)) → Memᴰ l ls
  pub once : NoRepeat ls
  pub after : (i : ℕ) → i < length ls → 1 ≤ feeder N (get_or ls i 0) → (j : ℕ) × (j < i) × (get_or ls j 0 ≡ feeder N (get_or ls i 0))

-- what is noted of lines
abbrev pub Told : Network → List Feed → List ℕ → Type 0
Told N lines ls = (l : ℕ) → Memᴰ l ls → (noted_near lines l ≡ near_end N l) × (noted_feeder lines l ≡ fed_by N l)

pub record Queue (N : Network) (Done : ℕ → Type 0) (y : Supply) : Type 0 where
  pub laid : Laid N Done y.order.items
  pub told : Told N y.lines y.order.items
  pub feeds : length y.lines ≡ 768

-- the HV stations below one
abbrev pub HVBelow : Network → ℕ → ℕ → Type 0
HVBelow N s t = (is_hv N t ≡ true) × (t < s)

-- the HV stations, and the far stations of some lines
abbrev pub Reached : Network → List ℕ → ℕ → Type 0
Reached N ls t = (is_hv N t ≡ true) ⊎ ((l : ℕ) × Memᴰ l ls × (is_open N (far (near_end N l)) ≡ false) × (station_at N (far (near_end N l)) ≡ t))

-- every line of the network has been reached
abbrev pub Whole : Network → Supply → Type 0
Whole N y = Queue N (Reached N y.order.items) y
