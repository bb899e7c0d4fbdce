use Rattle.bfd_script.proofs.FieldsCommon.{arith}
use Rattle.bfd_script.proofs.Nibbles.{run_decoded}
use Rattle.bfd_script.proofs.fields.digits.bytes_of_run.Goals as goal

pub returns : goal.returns
returns c = run_decoded c.args.run.now c.requires (λ k. (c.type_inv.run k).fits) (omega arith)
