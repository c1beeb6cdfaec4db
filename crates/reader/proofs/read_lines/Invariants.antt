use Rattle.std.specs.Prelude.{◌≡◌, ◌+◌, ◌-◌, length}
use Rattle.model.specs.Format.{records_of}
use Rattle.reader.specs.Reading.{more_lines}
use Rattle.reader.proofs.Turns.{turns, lines_part}
use Rattle.reader.proofs.read_lines.Given as goal

abbrev pub invariant-loop : goal.invariant-loop
invariant-loop l = record {
  answer : turns lines_part l.head l.net l.records.number (l.head.lines - l.counter) (records_of l.records.rest.now)
      ≡ more_lines l.initial.net l.initial.records.number l.initial.net.head.lines (records_of l.initial.records.rest.now);
  head : l.net.head ≡ l.initial.net.head;
  others : (l.net.stations ≡ l.initial.net.stations) × (l.net.places ≡ l.initial.net.places);
  first : l.head ≡ l.initial.net.head;
  count : length l.net.lines ≡ l.counter;
  number : l.records.number ≡ l.initial.records.number + l.counter;
}
