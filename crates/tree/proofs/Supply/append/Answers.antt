use Rattle.std.specs.Prelude.{◌-◌, ◌≡◌, [], ◌∷◌, ◌++◌, set}
use mathlib.Core.Path.{subst}
use Rattle.std.proofs.Common.{sym, ◌∙◌, ap, arith}
use Rattle.network.specs.View.{side_of, side_again}
use Rattle.tree.proofs.Following.{Following, following-end, following-line, following-skip, following-room, following-add}
use Rattle.tree.proofs.Supply.append.Goals as goal

pub overflow_sub-end-inside : goal.overflow_sub-end-inside
overflow_sub-end-inside c =
    let f = subst (λ es. Following c.args.self.now c.args.fed c.args.ends c.loop-end.self es) c.in-Some.ensures.steps c.loop-end.invariant.2 in
    omega (arith, following-line f, ap (λ e. e.line) c.end.view_is)

pub bounds-self-end-inside : goal.bounds-self-end-inside
bounds-self-end-inside c =
    let f = subst (λ es. Following c.args.self.now c.args.fed c.args.ends c.loop-end.self es) c.in-Some.ensures.steps c.loop-end.invariant.2 in
    omega (arith, following-line f, ap (λ e. e.line) c.end.view_is)

pub offset_bounds-self-end-inside : goal.offset_bounds-self-end-inside
offset_bounds-self-end-inside c =
    let f = subst (λ es. Following c.args.self.now c.args.fed c.args.ends c.loop-end.self es) c.in-Some.ensures.steps c.loop-end.invariant.2 in
    omega (arith, following-line f, ap (λ e. e.line) c.end.view_is)

pub push-requires : goal.push-requires
push-requires c =
    let f = subst (λ es. Following c.args.self.now c.args.fed c.args.ends c.loop-end.self es) c.in-Some.ensures.steps c.loop-end.invariant.2 in
    (omega arith, following-room f (sym c.is_of.ensures ∙ c.if-not-is_of.true))

pub loop-end-preserved-then-not-is_of : goal.loop-end-preserved-then-not-is_of
loop-end-preserved-then-not-is_of c =
    let y = c.loop-end.self in
    let f = subst (λ es. Following c.args.self.now c.args.fed c.args.ends y es) c.in-Some.ensures.steps c.loop-end.invariant.2 in
    let i = c.end.inside in
    let line : i.line ≡ c.in-Some.end.line = ap (λ e. e.line) c.end.view_is in
    let side : i.side ≡ side_of c.in-Some.end.side = sym (side_again i.side) ∙ ap (λ e. side_of e.side) c.end.view_is in (
      tt,
      tt,
      following-add f (sym c.is_of.ensures ∙ c.if-not-is_of.true) (record { lines = set y.lines (i.line - 1) (record { side = i.side; feeder = c.args.fed }); order = c.push.new.self })
          (λ j. set y.lines (line j - 1) (record { side = side j; feeder = c.args.fed }))
          (c.push.ensures.items ∙ ap (λ n. y.order.items ++ (n ∷ [])) line),
    )

pub loop-end-preserved : goal.loop-end-preserved
loop-end-preserved c =
    let f = subst (λ es. Following c.args.self.now c.args.fed c.args.ends c.loop-end.self es) c.in-Some.ensures.steps c.loop-end.invariant.2 in
    (tt, tt, following-skip f (sym c.is_of.ensures ∙ c.if-not-is_of.false))

pub returns : goal.returns
returns c = following-end (subst (λ es. Following c.args.self.now c.args.fed c.args.ends c.loop-end.self es) c.in-None.ensures.steps.0 c.loop-end.invariant.2)
