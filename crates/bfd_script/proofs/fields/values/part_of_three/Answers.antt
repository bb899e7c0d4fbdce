use Rattle.bfd_script.proofs.FieldsCommon.{arith, refl}
use Rattle.bfd_script.proofs.Octets.{part_3}
use Rattle.bfd_script.proofs.fields.values.part_of_three.Goals as goal

pub returns-then-n-lt256-clause-part : goal.returns-then-n-lt256-clause-part
returns-then-n-lt256-clause-part c = part_3 c.args.field.now (omega arith) (omega arith) (omega arith) (omega arith) (omega arith)
    (omega arith) (omega arith) (omega arith) refl c.three_digits-n.ensures (omega arith)
