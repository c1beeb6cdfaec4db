use Rattle.std.specs.Prelude.{◌≡◌, ◌^◌, ◌≤◌, ◌<◌, length, drop}
use Rattle.model.specs.Format.{number_of}
use Rattle.fields.proofs.Digits.{digits_from}
use Rattle.fields.proofs.read_number.Given as goal

abbrev pub invariant-loop-byte : goal.invariant-loop-byte
invariant-loop-byte l = (length l.field ≤ 10) × (l.value < 10 ^ l.byte-index) × (digits_from l.value (drop l.byte-index l.field) ≡ number_of l.field)
