use Rattle.bfd_script.proofs.Common.{refl}
use Rattle.bfd_script.proofs.Inserting.{rows_more, table_more}
use Rattle.bfd_script.proofs.table.Table.add.Goals as goal

-- both indices got the new session
pub invariant_of-self : goal.invariant_of-self
invariant_of-self c = table_more c.args.config c.self.invariant c.self.view_is refl (cc)
    c.requires.discr c.requires.place c.requires.room c.requires.fit c.requires.row c.in-Ok.ensures.rows c.in-Ok.ensures.places

-- and the sessions are the definition's
pub returns-in-Ok-clause-added : goal.returns-in-Ok-clause-added
returns-in-Ok-clause-added c = rows_more c.args.config c.self.invariant.keyed c.self.view_is refl c.requires.discr c.in-Ok.ensures.rows
