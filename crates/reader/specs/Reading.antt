-- A network that is read part by part.
use Rattle.std.specs.Prelude.{ℕ, ◌-◌, List, ◌++◌, map, length, get_or, Result}
use Rattle.model.specs.declared.Refusal.{Refusal}
use Rattle.model.specs.declared.Head.{Head}
use Rattle.model.specs.Answer.{Answer, given, ◌>>=◌, says}
use Rattle.model.specs.Format.{Record, records_of}
use Rattle.model.specs.Network.{Network, Place, kind_n, kind_s, kind_l, head_of, station_of, line_of, no_place, read_records, read_places}
use Rattle.records.specs.Records.{next_record}

-- what is given, and the records of what is left
abbrev pub left_says : {A B : Type 0} → Result A Refusal → B → List ℕ → Answer (B × List Record)
left_says r b rest = says r >>= λ a. given (b, records_of rest)

abbrev pub head_says : Result Head Refusal → List ℕ → Answer (Head × List Record)
head_says r rest = says r >>= λ h. given (h, records_of rest)

abbrev pub says_of : {A B : Type 0} → Result A Refusal → B → Answer B
says_of r b = says r >>= λ a. given b

-- the head of the first of these records, and those behind it
unfoldable pub first_head : List Record → Answer (Head × List Record)
unfolding next_record kind_n head_of
first_head rs = next_record 0 0 1 kind_n rs >>= λ p. given (head_of p.0, p.1)

-- the network with so many stations, or lines, more, the first of them from record `i`, and the records behind them
unfoldable pub more_stations : Network → (i count : ℕ) → List Record → Answer (Network × List Record)
unfolding read_records kind_s station_of
more_stations N i count rs =
    read_records N.head.stations N.head.lines i kind_s count rs >>= λ p.
    given (record { head = N.head; stations = N.stations ++ map station_of p.0; lines = N.lines; places = N.places }, p.1)

unfoldable pub more_lines : Network → (i count : ℕ) → List Record → Answer (Network × List Record)
unfolding read_records kind_l line_of
more_lines N i count rs =
    read_records N.head.stations N.head.lines i kind_l count rs >>= λ p.
    given (record { head = N.head; stations = N.stations; lines = N.lines ++ map line_of p.0; places = N.places }, p.1)

-- the last of these places, or what stands before every place
unfoldable pub last_place : List Place → Place
last_place ps = get_or ps (length ps - 1) no_place

-- the network with the places of these records, of which the first is record `i`, behind its own
unfoldable pub more_places : Network → (i : ℕ) → List Record → Answer Network
unfolding read_places last_place
more_places N i rs =
    read_places N.head N.lines i (length N.places) (last_place N.places) rs >>= λ ps.
    given (record { head = N.head; stations = N.stations; lines = N.lines; places = N.places ++ ps })
