-- The event leaves sessions with their timers.
use Rattle.bfd_shard.proofs.Common.{ap}
use Rattle.bfd_shard.specs.Sessions.{Timed}
use Rattle.bfd_shard.proofs.Expiring.{exactly_now}
use Rattle.bfd_shard.proofs.Moves.{may_come}
use Rattle.bfd_shard.proofs.Timing.{timed}
use Rattle.bfd_shard.proofs.sessions.Sessions.apply.Goals as goal

pub act-last-requires-clause-may_come : goal.act-last-requires-clause-may_come
act-last-requires-clause-may_come g c = may_come c.self.inside.sessions.items c.args.event.now
    (rw (ap (λ (s : Timed). s.sessions) c.self.view_is) c.requires.can)

pub invariant_of-self : goal.invariant_of-self
invariant_of-self g c =
    let a = c.act-last.ensures in
    let inside = c.self.inside in
    timed inside.last c.act-last.result.0 c.args.event.now inside.sessions.items c.act-last.new.sessions.items c.self.invariant a.early
    a.sessions a.sound a.dues a.ids

pub returns-clause-exact : goal.returns-clause-exact
returns-clause-exact g c =
    let laws = c.tick_laws.ensures in
    rw (← c.self.view_is) (exactly_now (record { expires = laws.expires; heard = laws.heard }) c.self.inside.last c.args.event.now
    c.self.inside.sessions.items c.act-last.new.sessions.items c.self.invariant.sound c.act-last.ensures.sessions)
