use Rattle.bfd_script.proofs.FieldsCommon.{◌+◌, arith}
use Rattle.bfd_script.proofs.WindowDigits.{next_has, none_has}
use Rattle.bfd_script.proofs.fields.window_digits.runs_at.Goals as goal

pub loop-done-init : goal.loop-done-init
loop-done-init c = (none_has c.args.text.now c.args.from (c.args.from + 0) (omega arith), omega arith)

-- one more run
pub loop-done-preserved : goal.loop-done-preserved
loop-done-preserved c = (
  next_has c.loop-done.invariant.0 c.in-Some.ensures c.keep_run.ensures (omega arith),
  omega (arith, c.loop-done-test.true),
)
