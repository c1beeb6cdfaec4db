use native.Mathlib.Omega.{arith}
use Rattle.theory.specs.Sizes.{read-sized, total_size, largest_size}
use Rattle.bounds.specs.Bounds.{places_from}
use Rattle.search.proofs.Walk.goes_on.Goals as goal

pub can_pass-requires : goal.can_pass-requires
can_pass-requires c =
    let N = c.args.self.now.tables.net.now in
    let x = c.requires.0 in
    let s = read-sized N x.accepted.read in
    omega (arith, x.saves, total_size N s, c.most_saved-more.ensures.most N x.table (omega (arith, c.if-place_count-from.false, c.place_count.ensures.count)), largest_size N s c.args.left (places_from N c.args.from))
