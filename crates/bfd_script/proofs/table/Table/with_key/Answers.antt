use Rattle.bfd_script.proofs.Common.{keyed_more}
use Rattle.bfd_script.proofs.Giving.{rows_changed, table_more_keys}
use Rattle.bfd_script.proofs.table.Table.with_key.Goals as goal

-- the discriminators and the places are as they were
pub invariant_of-result : goal.invariant_of-result
invariant_of-result c = table_more_keys c.args.discr c.self.invariant c.self.view_is c.requires.room c.requires.key c.give_more.ensures

-- and the sessions are the definition's
pub returns : goal.returns
returns c = rows_changed (keyed_more c.args.key) c.args.discr _ _ c.self.view_is c.give_more.ensures
