-- A network with one of its fields changed.
use Rattle.std.specs.Prelude.{ℕ, ◌≡◌, refl, true, false, List, [], ◌∷◌, ◌++◌, eqb, take}
use Rattle.model.specs.Lists.{numbered, renumbered}
use Rattle.model.specs.declared.Head.{Head}
use Rattle.model.specs.Network.{Station, Network, Line, Place, no_line}
use Rattle.model.specs.Sets.{line_with_breaker, with_breaker}

-- the head with another number of breakers that may be added
unfoldable pub head_with_adds : Head → ℕ → Head
head_with_adds h adds = record {
  stations = h.stations;
  lines = h.lines;
  minutes = h.minutes;
  series = h.series;
  adds = adds;
  money = h.money;
  hours = h.hours;
  visits = h.visits;
}

-- a line with another state at one of its ends
unfoldable pub line_with_state : ℕ → ℕ → Line → Line
line_with_state side state l = record {
  weight = l.weight;
  from = l.from;
  to = l.to;
  state1 = elim (eqb side 1) [ true ↦ state | false ↦ l.state1 ];
  state2 = elim (eqb side 2) [ true ↦ state | false ↦ l.state2 ];
}

-- a line with another weight
unfoldable pub line_with_weight : ℕ → Line → Line
line_with_weight weight l = record { weight = weight; from = l.from; to = l.to; state1 = l.state1; state2 = l.state2 }

-- the network with other lines, and with another line of a number
unfoldable pub with_lines : Network → List Line → Network
with_lines N ls = record { head = N.head; stations = N.stations; lines = ls; places = N.places }

unfoldable pub with_line : Network → ℕ → (Line → Line) → Network
unfolding with_lines numbered renumbered
with_line N line f = with_lines N (renumbered N.lines line (f (numbered no_line N.lines line)))

-- the network with another state at an end, of which a breaker is the state 1; and with another weight of a line
unfoldable pub with_state : Network → (line side state : ℕ) → Network
unfolding with_line line_with_state
with_state N line side state = with_line N line (line_with_state side state)

pub breaker-is-state : (N : Network) (p : Place) → with_breaker N p ≡ with_state N p.line p.side 1
unfolding with_breaker line_with_breaker with_state with_line with_lines line_with_state
breaker-is-state N p = refl

unfoldable pub with_weight : Network → (line weight : ℕ) → Network
unfolding with_line line_with_weight
with_weight N line weight = with_line N line (line_with_weight weight)

-- the network where so many breakers may be added
unfoldable pub with_adds : Network → ℕ → Network
unfolding head_with_adds
with_adds N adds = record {
  head = head_with_adds N.head adds;
  stations = N.stations;
  lines = N.lines;
  places = N.places;
}

-- the network with other places: with another place of a number, the first places only, and one place more
unfoldable pub with_places : Network → List Place → Network
with_places N ps = record { head = N.head; stations = N.stations; lines = N.lines; places = ps }

unfoldable pub with_place : Network → ℕ → Place → Network
unfolding with_places renumbered
with_place N place p = with_places N (renumbered N.places place p)

unfoldable pub with_first_places : Network → ℕ → Network
unfolding with_places
with_first_places N count = with_places N (take count N.places)

unfoldable pub with_one_more : Network → Place → Network
unfolding with_places
with_one_more N p = with_places N (N.places ++ (p ∷ []))

-- the network with one station more, and with one line more
unfoldable pub with_one_more_station : Network → Station → Network
with_one_more_station N s = record { head = N.head; stations = N.stations ++ (s ∷ []); lines = N.lines; places = N.places }

unfoldable pub with_one_more_line : Network → Line → Network
unfolding with_lines
with_one_more_line N l = with_lines N (N.lines ++ (l ∷ []))
