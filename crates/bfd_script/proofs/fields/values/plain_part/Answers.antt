use Rattle.bfd_script.proofs.FieldsCommon.{arith, refl}
use Rattle.bfd_script.proofs.Octets.{part_1}
use Rattle.bfd_script.proofs.fields.values.plain_part.Goals as goal

pub returns-in-48-to-57-clause-part : goal.returns-in-48-to-57-clause-part
returns-in-48-to-57-clause-part c = part_1 c.args.field.now (omega arith) (omega arith) (omega arith) (omega arith) refl
