use Rattle.bfd_script.proofs.FieldsCommon.{arith, inl, inr, refl, ◌+◌}
use Rattle.bfd_script.proofs.Windowed.{number_more, number_one, number_small}
use Rattle.bfd_script.proofs.fields.window.number_at.Goals as goal

pub loop-next-init : goal.loop-next-init
loop-next-init c = (
  number_one c.args.text.now c.args.from (omega (arith, c.told-text, c.requires.within)) c.if-first-gt9.false
      (c.figure-first.ensures c.if-first-gt9.false),
  omega (arith, c.requires.some),
  omega arith,
  λ digit. (
    elim c.else-next-le9.either [ inl w ↦ omega (arith, w.1) | inr w ↦ absurd (omega (arith, w, digit)) ],
    c.figure-next.ensures digit,
  ),
)

pub overflow_sub-at : goal.overflow_sub-at
overflow_sub-at c = omega (arith, c.loop-next.invariant.2)

pub overflow_mul-n : goal.overflow_mul-n
overflow_mul-n c = omega (
  arith,
  c.if-at-from.false,
  c.requires.few,
  number_small c.loop-next.invariant.0 (omega (arith, c.if-at-from.false, c.requires.few)),
)

pub overflow_add-n : goal.overflow_add-n
overflow_add-n c = omega (
  arith,
  c.loop-next-test.true,
  number_small c.loop-next.invariant.0 (omega (arith, c.if-at-from.false, c.requires.few)),
)

pub loop-next-smaller : goal.loop-next-smaller
loop-next-smaller c = omega (arith, c.loop-next.invariant.1)

pub loop-next-preserved : goal.loop-next-preserved
loop-next-preserved c =
    let some = (c.loop-next.invariant.3 c.loop-next-test.true).0 in (
      number_more (c.loop-next.at + 1) refl c.loop-next.invariant.0 some (omega (arith, c.told-text, c.requires.within, c.loop-next.invariant.1)) c.loop-next-test.true
          (c.loop-next.invariant.3 c.loop-next-test.true).1,
      omega (arith, c.if-at-from.false),
      omega (arith, c.loop-next.invariant.2),
      λ digit. (omega (arith, some), c.figure-next-in-loop-next.ensures digit),
    )

pub returns-clause-number : goal.returns-clause-number
returns-clause-number c = c.loop-next.invariant.0

pub returns-clause-near : goal.returns-clause-near
returns-clause-near c = c.loop-next.invariant.1
