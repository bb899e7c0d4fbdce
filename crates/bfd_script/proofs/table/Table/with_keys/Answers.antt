use Rattle.bfd_script.proofs.Common.{keyed_with}
use Rattle.bfd_script.proofs.Giving.{rows_changed, table_given}
use Rattle.bfd_script.proofs.table.Table.with_keys.Goals as goal

-- the discriminators and the places are as they were
pub invariant_of-result : goal.invariant_of-result
invariant_of-result c = table_given c.args.discr c.self.invariant c.requires c.give.ensures

-- and the sessions are the definition's
pub returns : goal.returns
returns c = rows_changed (keyed_with c.args.keys) c.args.discr _ _ c.self.view_is c.give.ensures
