-- What the line is to the sessions.
use Rattle.std.proofs.Common.{rules, ◌≡◌, IfOk, arith, subst}
use Rattle.bfd_session.specs.declared.event.Event.TheVariants.{Packet, Returned}
use Rattle.bfd_shard.specs.declared.entry.ShardEvent.TheVariants.{Own}
use Rattle.bfd_replay.specs.Happenings.{Among, Happening}
use Rattle.bfd_replay.specs.Planned.{happening}
use Rattle.bfd_replay.specs.Turning.{Gave}
use Rattle.bfd_replay.proofs.stream.turning.happen.Goals as goal

pub own-requires-clause-room : goal.own-requires-clause-room
own-requires-clause-room g c = omega (arith, c.requires.room 0)

pub returned-requires-clause-room : goal.returned-requires-clause-room
returned-requires-clause-room g c = omega (arith, c.requires.room 0)

pub reflected-requires-clause-room : goal.reflected-requires-clause-room
reflected-requires-clause-room g c = omega (arith, c.requires.room 0)

pub returns-in-Ok-Session-clause-gave : goal.returns-in-Ok-Session-clause-gave
returns-in-Ok-Session-clause-gave g c =
    let h : Happening = happening c.args.engine.now.configs c.args.engine.now.pool c.args.line in
    let is : Among (Own c.in-Ok-Session.place c.in-Rx.moment (Packet c.in-Rx.arrival)) ≡ h = search rules in
    subst (λ x. IfOk c.own.result (λ answer. Gave c.args.engine.now c.args.pass.now c.own.new.pass x
    (record { items = c.own.new.outs.items; answer = answer }))) is c.own.ensures.gave

pub returns-in-Ok-Echo-clause-gave : goal.returns-in-Ok-Echo-clause-gave
returns-in-Ok-Echo-clause-gave g c =
    let h : Happening = happening c.args.engine.now.configs c.args.engine.now.pool c.args.line in
    let is : Among (Own c.in-Ok-Echo.place c.in-Rx.moment (Returned c.in-Ok-Echo.sequence)) ≡ h = search rules in
    subst (λ x. IfOk c.returned.result (λ answer. Gave c.args.engine.now c.args.pass.now c.returned.new.pass x
    (record { items = c.returned.new.outs.items; answer = answer }))) is c.returned.ensures.gave
