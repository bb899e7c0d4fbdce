-- The discriminators stay those of the sessions.
use Rattle.bfd_session.proofs.Common.{sym, discr_of}
use Rattle.bfd_session.proofs.Changes.{map_inserted}
use Rattle.bfd_session.proofs.table.Roster.insert.Goals as goal

pub invariant_of-self : goal.invariant_of-self
invariant_of-self c =
    rw (c.in-Ok.ensures.items, c.inserted.ensures, c.discr.ensures, c.self.invariant)
    (sym (map_inserted discr_of c.self.inside.configs.items c.args.place c.args.config.now))
