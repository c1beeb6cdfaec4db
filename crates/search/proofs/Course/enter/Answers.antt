use Prim.Native.Nat.{◌-◌}
use mathlib.Core.Path.{◌≡◌, sym, subst}
use lib.ListN.{length, take}
use Rattle.prospects.specs.Chosen as chosen
use Rattle.search.specs.Walking.{rest}
use Rattle.search.proofs.Course.enter.Goals as goal

pub enter-requires : goal.enter-requires
enter-requires c =
    let e : take (c.len-size.result - 1) c.deref.result.now ≡ rest c.args.self.now.members.items = (λ i. take (c.len-size.ensures.value i - 1) (c.deref.ensures.0 i)) in
    subst (λ S. chosen.Entering c.args.tables.now.net.now c.args.tables.now.relations.now S (length S) c.in-Some.last c.args.self.now.prospects) (sym e) (c.requires.entering c.in-Some.last c.in-Some.is)
