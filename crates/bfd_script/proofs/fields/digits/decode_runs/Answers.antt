use Rattle.bfd_script.proofs.FieldsCommon.{arith}
use Rattle.bfd_script.proofs.Nibbles.{rest_more, run_more}
use Rattle.bfd_script.proofs.fields.digits.decode_runs.Goals as goal

-- the bytes of one more run
pub loop-run-preserved : goal.loop-run-preserved
loop-run-preserved c = (
  omega (arith, c.loop-run.invariant.0, c.put_run.ensures.long, c.in-Some.ensures.cases.2),
  omega (arith, c.loop-run.invariant.1, c.put_run.ensures.long),
  run_more c.args.digits.now c.loop-run.rest.now _
      c.in-Some.ensures.cases.0 c.in-Some.ensures.cases.1 c.in-Some-bytes_of_run.ensures c.put_run.ensures.text c.loop-run.invariant.2,
)

pub returns-clause-value : goal.returns-clause-value
returns-clause-value c all = rest_more c.args.digits.now c.loop-run.rest.now c.decode_rest.new.room c.loop-run.room c.loop-run.done
    (c.decode_rest.ensures.value all) c.decode_rest.ensures.front c.loop-run.invariant.2
