-- The session stands at the place that the table has for it, or the table is as it was.
use Rattle.bfd_instance.proofs.Common.{ap}
use Rattle.bfd_session.specs.Tables.{Members}
use Rattle.bfd_shard.specs.Sessions.{Timed}
use Rattle.bfd_instance.proofs.Joining.{joined_up, place_is, session_joins, stage_joins, stage_same, table_undone}
use Rattle.bfd_instance.proofs.instance.Instance.add.Goals as goal

pub invariant_of-self-in-Ok : goal.invariant_of-self-in-Ok
invariant_of-self-in-Ok g c =
    stage_joins c.self.inside.sessions.sessions c.in_ok-place.place c.args.config c.self.inside.table c.self.invariant.configs
    (let e = c.in_ok-place.ensures in
    joined_up c.self.inside.table c.args.config e.fault e.table c.in_ok-place.place c.self.invariant.ascends e.place)
    c.in_ok-place.ensures.place
    c.in-Ok.ensures.sessions c.in-Ok.ensures.room

pub invariant_of-self-in-Err : goal.invariant_of-self-in-Err
invariant_of-self-in-Err g c =
    let e = c.in_ok-place.ensures in
    stage_same c.self.invariant (ap (λ (s : Timed). s.sessions) c.in-Err.ensures.same)
    (table_undone c.self.inside.table c.args.config e.fault e.table c.discr-discr.result c.discr-discr.ensures c.remove.ensures.table)
    c.in-Err.ensures.kept

pub returns-in-Ok-clause-world : goal.returns-in-Ok-clause-world
returns-in-Ok-clause-world g c =
    let e = c.in_ok-place.ensures in
    rw (← c.self.view_is, ap (λ (m : Members). m.pool) e.table, c.in-Ok.ensures.last)
    (session_joins c.self.inside.sessions.sessions c.in_ok-place.place c.args.config c.self.inside.table.pool c.self.inside.sessions.last
    c.self.invariant.configs (place_is c.self.inside.table c.args.config e.fault e.table c.in_ok-place.place e.place)
    c.in-Ok.ensures.sessions)

pub returns-in-Ok-clause-place : goal.returns-in-Ok-clause-place
returns-in-Ok-clause-place g c =
    let e = c.in_ok-place.ensures in
    rw (← c.self.view_is, ← c.self.invariant.configs)
    (place_is c.self.inside.table c.args.config e.fault e.table c.in_ok-place.place e.place)
