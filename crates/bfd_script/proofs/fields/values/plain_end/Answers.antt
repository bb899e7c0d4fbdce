use Rattle.bfd_script.proofs.FieldsCommon.{arith}
use Rattle.bfd_script.proofs.Octets.{end_1, end_2, end_3}
use Rattle.bfd_script.proofs.fields.values.plain_end.Goals as goal

pub returns-in-48-to-57-clause-value : goal.returns-in-48-to-57-clause-value
returns-in-48-to-57-clause-value c = end_1 c.args.field.now (omega arith) (omega arith) (omega arith)

pub returns-in-49-to-57-clause-value : goal.returns-in-49-to-57-clause-value
returns-in-49-to-57-clause-value c = end_2 c.args.field.now (omega arith) (omega arith) (omega arith) (omega arith) (omega arith)

pub returns-then-n-lt256-clause-value : goal.returns-then-n-lt256-clause-value
returns-then-n-lt256-clause-value c = end_3 c.args.field.now (omega arith) (omega arith) (omega arith) (omega arith) (omega arith)
    (omega arith) (omega arith) c.three_digits-n.ensures (omega arith)
