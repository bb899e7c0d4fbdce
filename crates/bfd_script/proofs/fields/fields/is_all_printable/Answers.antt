use Rattle.bfd_script.proofs.FieldsCommon.{◌∙◌, arith}
use Rattle.bfd_script.proofs.SideBySide.{end_passed, left_more, run_passed}
use Rattle.bfd_script.proofs.fields.fields.is_all_printable.Goals as goal

-- what is left after one more run
pub loop-run-preserved : goal.loop-run-preserved
loop-run-preserved c = (
  run_passed c.loop-run.rest.now 32 c.in-Some.ensures.cases.0 c.in-Some.ensures.cases.1
      (c.is_run_printable.ensures c.if-not-is_run_printable.false) ∙ c.loop-run.invariant.0,
  omega (arith, c.loop-run.invariant.1, c.in-Some.ensures.cases.2),
  left_more c.args.line.now c.loop-run.invariant.2 c.loop-run.invariant.1 c.in-Some.ensures.cases.1 c.in-Some.ensures.cases.2,
)

-- the last run may stand in a line
pub returns-then-is_end_printable : goal.returns-then-is_end_printable
returns-then-is_end_printable c =
    cc (end_passed c.args.line.now c.loop-run.invariant.2 (omega arith) c.loop-run.invariant.1
    (c.is_end_printable.ensures c.if-is_end_printable.true))
