-- The search's clause, at the discriminators of the sessions.
use Rattle.bfd_session.proofs.Common.{rules, Ok, Err}
use Rattle.bfd_session.proofs.Initiating.{search_is}
use Rattle.bfd_session.proofs.table.Roster.place_of.Goals as goal

pub returns-in-Ok : goal.returns-in-Ok
returns-in-Ok c = (search_is c.args.self.now c.args.discr (Ok c.in-Ok.place) (search rules) c.requires.ascends c.in-Ok.ensures.position).0

pub returns-in-Err : goal.returns-in-Err
returns-in-Err c = search_is c.args.self.now c.args.discr (Err c.in-Err.field-0) (search rules) c.requires.ascends c.in-Err.ensures.position
