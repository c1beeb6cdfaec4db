-- A network is accepted in at most one way: what acceptance gives has at most one proof.
use Rattle.std.proofs.Props.{props}
use mathlib.Core.HLevel.{Unit-prop, ×_prop}
use mathlib.Core.List.{List, [], ◌∷◌}
use lib.ListN.{length}
use Rattle.model.specs.Network.{Network, Place}
use Rattle.theory.specs.Reading.{All, InOrder, StationFits, LineFits, PlaceFits, OnPlain}
use Rattle.theory.specs.Best.{Accepted}

All-prop : {A : Type 0} (P : A → Type 0) → ((x : A) → IsProp (P x)) → (xs : List A) → IsProp (All P xs)
All-prop P p [] = Unit-prop
All-prop P p (x ∷ xs) = ×_prop (p x) (All-prop P p xs)

InOrder-prop : (before : Place) (ps : List Place) → IsProp (InOrder before ps)
InOrder-prop before [] = Unit-prop
InOrder-prop before (p ∷ ps) = ×_prop (hlevel props) (InOrder-prop p ps)

pub Accepted-prop : (N : Network) → IsProp (Accepted N)
Accepted-prop N =
    let stations = All-prop StationFits (λ s. hlevel props) N.stations in
    let lines = All-prop (LineFits (length N.stations)) (λ l. hlevel props) N.lines in
    let places = All-prop (PlaceFits (length N.lines)) (λ p. hlevel props) N.places in
    let plain = All-prop (OnPlain N.lines) (λ p. hlevel props) N.places in
    hlevel (props, InOrder-prop, stations, lines, places, plain)
