use Rattle.bfd_script.proofs.SideBySide.{by_masks}
use Rattle.bfd_script.proofs.fields.fields.is_run_printable.Goals as goal

-- no lane of a mask is set
pub returns-then-bytes-eq0 : goal.returns-then-bytes-eq0
returns-then-bytes-eq0 c high = by_masks c.args.run.now c.told-run c.if-bytes-eq0.true high
