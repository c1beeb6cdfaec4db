-- What a tree holds of a network: the closed ends at each station, how each line is fed, and the lines from the HV stations outwards.
use Rattle.std.specs.Prelude.{ℕ, ◌-◌, ◌≤◌, ◌<◌, ◌≡◌, Option, None, List, length, get_or}
use Rattle.model.specs.Network.{Network}
use Rattle.model.specs.Paths.{End}
use Rattle.network.specs.declared.Side.TheVariants.{One}
use Rattle.network.specs.View.{side_number}
use Rattle.network.specs.There.{StationThere, LineThere}
use Rattle.tree.specs.Linked.{Listed, along, ends_at}
use Rattle.tree.specs.Outwards.{near_end, feeder, fed_by}
use Rattle.tree.specs.declared.Lists.{Lists}
use Rattle.tree.specs.declared.Feed.{Feed}
use Rattle.tree.specs.declared.Tree.{Tree}

-- a station has a list, and the ends of its list
pub record HasList (x : Lists) (s : ℕ) : Type 0 where
  pub low : 1 ≤ s
  pub high : s ≤ 512
  pub listed : Listed x.nexts (get_or x.firsts (s - 1) None)

abbrev pub listed_ends : Lists → ℕ → List End
listed_ends x s = along 1536 x.nexts (get_or x.firsts (s - 1) None)

-- the lists of a network: each station's has the closed ends at it
pub record HoldsLists (N : Network) (x : Lists) : Type 0 where
  pub has : (s : ℕ) → StationThere N s → HasList x s
  pub ends : (s : ℕ) → StationThere N s → listed_ends x s ≡ ends_at N s

-- what is noted of a line: how it is fed, and with that its near end and the line that feeds it
abbrev pub no_feed : Feed
no_feed = record { side = One; feeder = None }

abbrev pub feed_in : List Feed → ℕ → Feed
feed_in lines l = get_or lines (l - 1) no_feed

abbrev pub noted_near : List Feed → ℕ → End
noted_near lines l = record { line = l; side = side_number (feed_in lines l).side }

abbrev pub noted_feeder : List Feed → ℕ → Option ℕ
noted_feeder lines l = (feed_in lines l).feeder

-- what a tree has of a station: that it has a list, and the ends of it
abbrev pub HasEnds : Tree → ℕ → Type 0
HasEnds t s = HasList t.lists s

abbrev pub ends_in : Tree → ℕ → List End
ends_in t s = listed_ends t.lists s

-- it has the lists of a network
abbrev pub HoldsEnds : Network → Tree → Type 0
HoldsEnds N t = HoldsLists N t.lists

-- what it has of a line: its near end, and the line that feeds it
abbrev pub near_in : Tree → ℕ → End
near_in t l = noted_near t.supply.lines l

abbrev pub feeder_in : Tree → ℕ → Option ℕ
feeder_in t l = noted_feeder t.supply.lines l

-- its lines, from the HV stations outwards
abbrev pub lines_in : Tree → List ℕ
lines_in t = t.supply.order.items

-- it has the near end of each line of a network
abbrev pub HoldsNears : Network → Tree → Type 0
HoldsNears N t = (l : ℕ) → LineThere N l → near_in t l ≡ near_end N l

-- and the line that feeds it
pub record HoldsFeeders (N : Network) (t : Tree) : Type 0 where
  pub nears : HoldsNears N t
  pub feeds : (l : ℕ) → LineThere N l → feeder_in t l ≡ fed_by N l

-- and the lines from the HV stations outwards, before any others
pub record HoldsOutwards (N : Network) (t : Tree) : Type 0 where
  pub feeders : HoldsFeeders N t
  -- every line stands in the order, and nothing else
  pub listed : (l : ℕ) → LineThere N l → (i : ℕ) × (i < length N.lines) × (get_or (lines_in t) i 0 ≡ l)
  pub inside : (i : ℕ) → i < length N.lines → LineThere N (get_or (lines_in t) i 0)
  -- the line that feeds a line stands before it
  pub after : (i : ℕ) → i < length N.lines → 1 ≤ feeder N (get_or (lines_in t) i 0) → (j : ℕ) × (j < i) × (get_or (lines_in t) j 0 ≡ feeder N (get_or (lines_in t) i 0))

-- it is the tree of a network
pub record HoldsTree (N : Network) (t : Tree) : Type 0 where
  pub linked : HoldsEnds N t
  pub outwards : HoldsOutwards N t
