-- What keeps the row out is the kind of fault that the rows have with it.
use Rattle.bfd_demux.proofs.Changing.{added_as_built}
use Rattle.bfd_demux.proofs.demux.Demux.add.Goals as goal

pub returns-in-Some-clause-as_built : goal.returns-in-Some-clause-as_built
returns-in-Some-clause-as_built c = rw (← c.self.view_is)
    (added_as_built c.self.inside.rows.items c.args.place c.args.row.now (rw c.self.view_is c.requires) c.self.invariant.sound)

pub returns-in-Ok-clause-as_built : goal.returns-in-Ok-clause-as_built
returns-in-Ok-clause-as_built c = rw (← c.self.view_is)
    (added_as_built c.self.inside.rows.items c.args.place c.args.row.now (rw c.self.view_is c.requires) c.self.invariant.sound)

pub returns-in-Err-clause-as_built : goal.returns-in-Err-clause-as_built
returns-in-Err-clause-as_built c = rw (← c.self.view_is)
    (added_as_built c.self.inside.rows.items c.args.place c.args.row.now (rw c.self.view_is c.requires) c.self.invariant.sound)
