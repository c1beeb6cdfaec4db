use mathlib.Core.Path.{refl, ap, ◌∙◌}
use native.Mathlib.Omega.{arith}
use lib.Seq.{take_all}
use Rattle.model.specs.Sets.{with_breakers}
use Rattle.planning.proofs.Changing.{place-there, line-there, one_more}
use Rattle.planning.proofs.add_breakers.Goals as goal

pub loop-place-init : goal.loop-place-init
unfolding with_breakers
loop-place-init c = refl

pub place_end-end-requires : goal.place_end-end-requires
place_end-end-requires c =
    let l = c.loop-place in
    place-there c.args.net.now c.requires.0 c.args.members.now c.requires.1 l.net l.place-index l.invariant (omega arith)

pub add_breaker-requires : goal.add_breaker-requires
add_breaker-requires c =
    let l = c.loop-place in
    line-there c.args.net.now c.requires.0 c.args.members.now c.requires.1 l.net l.place-index l.invariant (omega arith) c.place_end-end.ensures

pub loop-place-preserved : goal.loop-place-preserved
loop-place-preserved c =
    let l = c.loop-place in
    one_more c.args.net.now c.requires.0 c.args.members.now c.requires.1 l.net l.place-index l.invariant (omega arith) c.place_end-end.ensures c.add_breaker.ensures

pub returns : goal.returns
returns c =
    let l = c.loop-place in
    l.invariant ∙ ap (with_breakers c.args.net.now) (take_all l.place-index c.args.members.now (omega arith))
