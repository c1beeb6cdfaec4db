-- The stations, lines and places that the code holds, as the definitions have them.
use Rattle.std.specs.Prelude.{ℕ, zero, suc, ◌≤◌, ◌≡◌, refl, true, false, eqb}
use Rattle.std.proofs.Common.{arith}
use Rattle.model.specs.Network.{Station, Line, Place}
use Rattle.network.specs.declared.Role.{Role}
use Rattle.network.specs.declared.Role.TheVariants.{Mv, Hv}
use Rattle.network.specs.declared.State.{State}
use Rattle.network.specs.declared.State.TheVariants.{Plain, Breaker, Open}
use Rattle.network.specs.declared.Side.{Side}
use Rattle.network.specs.declared.Side.TheVariants.{One, Two}
use Rattle.network.specs.declared.Station.{Station as HeldStation}
use Rattle.network.specs.declared.Line.{Line as HeldLine}
use Rattle.network.specs.declared.Place.{Place as HeldPlace}

-- the number of a role, a state and an end in the file
abbrev pub role_number : Role → ℕ
role_number Mv = 0
role_number Hv = 1

abbrev pub state_number : State → ℕ
state_number Plain = 0
state_number Breaker = 1
state_number Open = 2

abbrev pub side_number : Side → ℕ
side_number One = 1
side_number Two = 2

-- the side that a number stands for
abbrev pub side_of : ℕ → Side
side_of n = elim (eqb n 1) [ true ↦ One | false ↦ Two ]

pub side_again : (s : Side) → side_of (side_number s) ≡ s
side_again One = refl
side_again Two = refl

pub number_again : (n : ℕ) → 1 ≤ n → n ≤ 2 → side_number (side_of n) ≡ n
number_again zero a b = absurd (omega arith)
number_again (suc zero) a b = refl
number_again (suc (suc zero)) a b = refl
number_again (suc (suc (suc n))) a b = absurd (omega arith)

abbrev pub station_of_held : HeldStation → Station
station_of_held s = record { role = role_number s.role; customers = s.customers }

abbrev pub line_of_held : HeldLine → Line
line_of_held l = record { weight = l.weight; from = l.from; to = l.to; state1 = state_number l.state1; state2 = state_number l.state2 }

abbrev pub place_of_held : HeldPlace → Place
place_of_held p = record { line = p.line; side = side_number p.side; cost = p.cost; hours = p.hours }

-- the station that an end of a line is at
abbrev pub station_at_end : Line → ℕ → ℕ
station_at_end l side = elim (eqb side 1) [ true ↦ l.from | false ↦ l.to ]
