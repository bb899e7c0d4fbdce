-- The session at the place of the discriminator leaves.
use Rattle.bfd_instance.proofs.Common.{ap}
use Rattle.bfd_session.specs.Tables.{Members}
use Rattle.bfd_instance.proofs.Joining.{session_leaves, stage_leaves}
use Rattle.bfd_instance.proofs.instance.Instance.remove.Goals as goal

pub invariant_of-self : goal.invariant_of-self
invariant_of-self g c =
    stage_leaves c.self.inside.sessions.sessions c.in-Some.place c.self.invariant c.in-Some.ensures.place c.remove-in-Some.ensures.sessions

pub returns-in-Some-clause-world : goal.returns-in-Some-clause-world
returns-in-Some-clause-world g c =
    rw (← c.self.view_is, ap (λ (m : Members). m.pool) c.in-Some.ensures.table, c.remove-in-Some.ensures.last)
    (session_leaves c.self.inside.sessions.sessions c.in-Some.place c.args.discr c.self.inside.table.pool c.self.inside.sessions.last
    c.self.invariant.configs c.in-Some.ensures.value c.remove-in-Some.ensures.sessions)
