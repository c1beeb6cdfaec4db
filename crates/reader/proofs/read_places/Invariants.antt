use Rattle.std.specs.Prelude.{◌≡◌, length}
use Rattle.model.specs.Format.{records_of}
use Rattle.reader.specs.Reading.{more_places}
use Rattle.reader.proofs.Places.{reading}
use Rattle.reader.proofs.read_places.Given as goal

abbrev pub invariant-loop-head : goal.invariant-loop-head
invariant-loop-head l = record {
  answer : reading l.head l.net l.records.number (records_of l.records.rest.now) ≡ more_places l.initial.net l.initial.records.number (records_of l.initial.records.rest.now);
  lines : length l.net.lines ≡ l.head.lines;
}

abbrev pub decreases-loop-head : goal.decreases-loop-head
decreases-loop-head l = length l.records.rest.now
