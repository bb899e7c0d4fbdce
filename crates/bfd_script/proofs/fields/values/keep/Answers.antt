use Rattle.bfd_script.proofs.FieldsCommon.{arith}
use Rattle.bfd_script.proofs.Kept.{bytes_front}
use Rattle.bfd_script.proofs.fields.values.keep.Goals as goal

-- the bytes of a slice are bytes, so those that are kept are
pub returns-clause-bytes : goal.returns-clause-bytes
returns-clause-bytes c = rw c.in_ok-keep.ensures.kept (bytes_front 256 c.args.bytes.now (λ i. omega (arith, c.type_inv.bytes i)))
