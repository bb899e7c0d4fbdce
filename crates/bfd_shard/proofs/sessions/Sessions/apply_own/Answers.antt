-- The own event leaves sessions with their timers.
use Rattle.bfd_shard.proofs.Common.{refl, ap, Own}
use Rattle.bfd_shard.specs.Sessions.{Timed}
use Rattle.bfd_shard.proofs.Moves.{may_come}
use Rattle.bfd_shard.proofs.Timing.{timed}
use Rattle.bfd_shard.proofs.sessions.Sessions.apply_own.Goals as goal

pub act_own-requires-clause-stands : goal.act_own-requires-clause-stands
act_own-requires-clause-stands g c =
    may_come c.self.inside.sessions.items (Own c.args.place c.args.moment c.args.event.now)
    (rw (ap (λ (s : Timed). s.sessions) c.self.view_is) c.requires.taken)

pub invariant_of-self : goal.invariant_of-self
invariant_of-self g c =
    let a = c.act_own.ensures in
    let inside = c.self.inside in
    timed inside.last inside.last (Own c.args.place c.args.moment c.args.event.now) inside.sessions.items c.act_own.new.sessions.items
    c.self.invariant c.self.invariant.early a.sessions a.sound a.dues refl
