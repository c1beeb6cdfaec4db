use Rattle.std.proofs.Common.{sym, ap, ◌∙◌}
use mathlib.Core.Logic.{inl, inr, ⊎_elim}
use Prim.Native.Nat.{◌+◌, ◌*◌, ◌-◌}
use native.Mathlib.Omega.{arith}
use lib.ListN.{get_or, drop}
use Rattle.fields.proofs.Digits.{digits_from, empty, long, zero-first, starts, low, high, more, ended, tens, below-ten-digits}
use Rattle.fields.proofs.read_number.Goals as goal
use Rattle.fields.proofs.read_number.Goals.{then-is_empty-via-then-is_empty, then-is_empty-via-else-is_empty+then-many_digits, else-several-via-then-several+else-field-eq48, else-several-via-else-several}

pub returns-then-is_empty : goal.returns-then-is_empty
returns-then-is_empty c =
    elim c.then-is_empty.branch [
      | then-is_empty-via-then-is_empty w ↦ empty c.args.field.now (omega (arith, c.is_empty.ensures.0 w.if-is_empty.true))
      | then-is_empty-via-else-is_empty+then-many_digits w ↦ long c.args.field.now (w.many_digits.ensures.0 w.if-many_digits.true)
    ]

pub returns-then-field-eq48 : goal.returns-then-field-eq48
returns-then-field-eq48 c = zero-first c.args.field.now (omega arith) c.if-field-eq48.true

pub loop-byte-init : goal.loop-byte-init
loop-byte-init c =
    let few = c.many_digits.ensures.1 c.if-many_digits.false in
    let some = c.is_empty.ensures.1 c.if-is_empty.false in (
      few,
      omega arith,
      starts c.args.field.now (λ e. omega (arith, e, some)) few (elim c.else-several.branch [ else-several-via-then-several+else-field-eq48 w ↦ inl w.if-field-eq48.false | else-several-via-else-several w ↦ inr w.if-several.false ]),
    )

pub returns-then-not-is_ascii_digit : goal.returns-then-not-is_ascii_digit
returns-then-not-is_ascii_digit c =
    let l = c.loop-byte in
    sym (⊎_elim (λ k. low c.args.field.now l.value l.byte-index (omega arith) k) (λ k. high c.args.field.now l.value l.byte-index (omega arith) k) c.if-not-is_ascii_digit.ensures.cases) ∙ l.invariant.2

pub overflow_mul-value : goal.overflow_mul-value
overflow_mul-value c = omega (arith, below-ten-digits c.loop-byte.byte-index (omega arith))

pub overflow_add-value : goal.overflow_add-value
overflow_add-value c = omega (arith, below-ten-digits c.loop-byte.byte-index (omega arith))

pub loop-byte-preserved : goal.loop-byte-preserved
loop-byte-preserved c =
    let l = c.loop-byte in
    let d = c.if-not-is_ascii_digit.ensures.cases in (
      l.invariant.0,
      omega (arith, tens l.byte-index, d.1),
      ap (λ n. digits_from (l.value * 10 + n) (drop (l.byte-index + 1) c.args.field.now)) {x = c.from.result} {y = get_or c.args.field.now l.byte-index 0 - 48} (omega arith)
          ∙ sym (more c.args.field.now l.value l.byte-index (omega arith) d.0 d.1) ∙ l.invariant.2,
    )

pub returns : goal.returns
returns c =
    let l = c.loop-byte in
    sym (ended c.args.field.now l.value l.byte-index (omega arith)) ∙ l.invariant.2
