use Rattle.bfd_script.proofs.FieldsCommon.{eqb, arith, w8, bitmask_splat}
use Rattle.bfd_script.proofs.fields.fields.marks_of.Goals as goal

pub returns : goal.returns
returns c = bitmask_splat w8 eqb c.args.front.now 64 32 c.told-front (omega arith)
