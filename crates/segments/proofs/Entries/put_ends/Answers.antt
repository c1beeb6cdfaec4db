use native.Mathlib.Omega.{arith}
use Rattle.model.specs.Paths.{end1, end2}
use Rattle.text.proofs.Listing.{behind}
use Rattle.segments.specs.Entries.{entry_of}
use Rattle.segments.proofs.Entries.put_ends.Goals as goal

pub returns : goal.returns
returns c =
    let N = c.args.self.now.net.now in
    let l = c.args.line in
    let both = behind (entry_of N (end1 l)) (entry_of N (end2 l)) c.args.table.now c.put_end-at.new.table c.put_end.new.table _ _ c.put_end-at.ensures.written c.put_end.ensures.written in
    record { written = both; short = omega arith }
