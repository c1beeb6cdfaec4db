use Rattle.std.proofs.Common.{◌≡◌, ℕ, List, ◌∷◌, rules, refl, sym, ap, eqb, ◌∙◌, arith, None, Some, true, false, length, take}
use mathlib.Core.Bool.{not}
use lib.Pointwise.{pointwise}
use lib.ListN.{length-take}
use lib.Seq.{take_all}
use Rattle.std.proofs.lemmas.List.{take_more_set}
use Rattle.std.proofs.lemmas.Iterator.{YieldsList}
use Rattle.std.proofs.lemmas.Iterator.Splits.{YieldsList-from_slice_split}
use Rattle.model.specs.Format.{comma, fields_of, after_letter}
use Rattle.fields.proofs.Fields.{fields-split, reading, first_field, complete, incomplete, too_many, bad-field, next_field, comes, no_more}
use Rattle.fields.proofs.read_form.Given as given
use Rattle.fields.proofs.read_form.Goals as goal
use Rattle.fields.proofs.read_form.Goals.{In_ok-next}

-- the first field, and those behind it
first : (c : In_ok-next) → (rest : List (List ℕ)) × (fields_of c.args.bytes.now ≡ c.in_ok-next.field-0.now ∷ rest) × YieldsList (given.iterator-loop-number).next_gives (λ x. x.now) c.next.new.self rest
first c =
    let s = c.split-fields.ensures in
    let m = comes (YieldsList-from_slice_split {s = c.split-fields.result} _ (λ b. eqb b comma) c.args.bytes.now s.rest s.done s.closure (λ x b q k.
    let e : b ≡ eqb k.shown.now comma = search rules in
    (refl, e ∙ ap (λ y. eqb y comma) k.shows))) c.in_ok-next.field-0 c.next.new.self c.in_ok-next.ensures.steps in
    (m.0, sym (fields-split c.args.bytes.now) ∙ m.1, m.2)

pub returns-then-ne : goal.returns-then-ne
returns-then-ne c =
    let a = c.args in
    let m = first (goal.at.returns-then-ne c).In_ok-next in
    let count = length a.row.now in
    sym (ap (after_letter a.letter count) m.1 ∙ first_field a.letter count c.in_ok-next.field-0.now m.0 true (c.if-ne.ensures ∙ ap (λ ys. not (pointwise eqb c.in_ok-next.field-0.now ys)) c.as_slice.ensures))

pub loop-number-init : goal.loop-number-init
loop-number-init c =
    let a = c.args in
    let m = first (goal.at.loop-number-init c).In_ok-next in
    let count = length a.row.now in (
      m.0,
      m.2,
      ap (after_letter a.letter count) m.1
          ∙ first_field a.letter count c.in_ok-next.field-0.now m.0 false (c.if-ne.ensures ∙ ap (λ ys. not (pointwise eqb c.in_ok-next.field-0.now ys)) c.as_slice.ensures),
    )

pub returns-in_err-next-2 : goal.returns-in_err-next-2
returns-in_err-next-2 c =
    let l = c.loop-number in
    let count = length c.args.row.now in
    let done = take l.number-index l.row in
    let m = no_more l.invariant.1 _ c.in_err-next-2.ensures.steps in
    let none : c.from_residual-in_err-next-2.result ≡ None = search rules in
    rw none (sym (l.invariant.2 ∙ ap (reading count done) m ∙ incomplete count done (λ e. omega (arith, length-take l.number-index l.row, l.auto.row))))

pub returns-in_err-number : goal.returns-in_err-number
returns-in_err-number c =
    let l = c.loop-number in
    let count = length c.args.row.now in
    let done = take l.number-index l.row in
    let m = comes l.invariant.1 c.in_ok-next-2.field-0 c.next-in-loop-number.new.self c.in_ok-next-2.ensures.steps in
    let none : c.from_residual-in_err-number.result ≡ None = search rules in
    rw none (sym (l.invariant.2 ∙ ap (reading count done) m.1 ∙ bad-field count done c.in_ok-next-2.field-0.now m.0 (sym c.read_number.ensures ∙ c.in_err-number.was)))

pub loop-number-preserved : goal.loop-number-preserved
loop-number-preserved c =
    let l = c.loop-number in
    let count = length c.args.row.now in
    let done = take l.number-index l.row in
    let m = comes l.invariant.1 c.in_ok-next-2.field-0 c.next-in-loop-number.new.self c.in_ok-next-2.ensures.steps in (
      m.0,
      m.2,
      l.invariant.2 ∙ ap (reading count done) m.1 ∙ next_field count done c.in_ok-next-2.field-0.now m.0 c.in_ok-number.field-0 (sym c.read_number.ensures ∙ c.in_ok-number.was)
          ∙ ap (λ ns. reading count ns m.0) (sym (take_more_set l.row l.number-index c.in_ok-number.field-0 (omega (arith, l.auto.row)))),
    )

pub returns-in-None : goal.returns-in-None
returns-in-None c =
    let l = c.loop-number in
    let count = length c.args.row.now in
    let done = take l.number-index l.row in
    let m = no_more l.invariant.1 c.next-2.new.self (search rules) in
    ap Some (sym (take_all l.number-index l.row (omega (arith, l.auto.row))))
    ∙ sym (l.invariant.2 ∙ ap (reading count done) m ∙ complete count done (omega (arith, length-take l.number-index l.row, l.auto.row)))

pub returns-in-Some : goal.returns-in-Some
returns-in-Some c =
    let l = c.loop-number in
    let count = length c.args.row.now in
    let done = take l.number-index l.row in
    let m = comes l.invariant.1 c.in-Some.field-0 c.next-2.new.self (search rules) in
    sym (l.invariant.2 ∙ ap (reading count done) m.1 ∙ too_many count done c.in-Some.field-0.now m.0 (omega (arith, length-take l.number-index l.row, l.auto.row)))
