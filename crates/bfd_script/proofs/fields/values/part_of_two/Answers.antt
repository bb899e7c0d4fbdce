use Rattle.bfd_script.proofs.FieldsCommon.{arith, refl}
use Rattle.bfd_script.proofs.Octets.{part_2}
use Rattle.bfd_script.proofs.fields.values.part_of_two.Goals as goal

pub returns-in-49-to-57-clause-part : goal.returns-in-49-to-57-clause-part
returns-in-49-to-57-clause-part c = part_2 c.args.field.now (omega arith) (omega arith) (omega arith) (omega arith) (omega arith)
    (omega arith) refl
