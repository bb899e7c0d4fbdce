-- The discriminators stay those of the sessions.
use Rattle.bfd_session.proofs.Common.{sym, discr_of}
use Rattle.bfd_session.proofs.Changes.{map_removed}
use Rattle.bfd_session.proofs.table.Roster.remove.Goals as goal

pub invariant_of-self : goal.invariant_of-self
invariant_of-self c = rw (c.remove.ensures.items, c.removed.ensures, c.self.invariant)
    (sym (map_removed discr_of c.self.inside.configs.items c.args.place))
