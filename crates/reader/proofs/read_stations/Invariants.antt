use Rattle.std.specs.Prelude.{◌≡◌, ◌+◌, ◌-◌, length}
use Rattle.model.specs.Format.{records_of}
use Rattle.reader.specs.Reading.{more_stations}
use Rattle.reader.proofs.Turns.{turns, stations_part}
use Rattle.reader.proofs.read_stations.Given as goal

abbrev pub invariant-loop : goal.invariant-loop
invariant-loop l = record {
  answer : turns stations_part l.head l.net l.records.number (l.head.stations - l.counter) (records_of l.records.rest.now)
      ≡ more_stations l.initial.net l.initial.records.number l.initial.net.head.stations (records_of l.initial.records.rest.now);
  head : l.net.head ≡ l.initial.net.head;
  others : (l.net.lines ≡ l.initial.net.lines) × (l.net.places ≡ l.initial.net.places);
  first : l.head ≡ l.initial.net.head;
  count : length l.net.stations ≡ l.counter;
  number : l.records.number ≡ l.initial.records.number + l.counter;
}
