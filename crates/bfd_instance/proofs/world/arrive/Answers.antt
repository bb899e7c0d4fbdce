-- What an arrival resolves to is a turn of the world.
use Rattle.bfd_instance.proofs.Common.{◌≡◌, ◌∙◌, ap, sym, rules, carried_out, world_of, table_of, configs_of, arriving}
use Rattle.bfd_session.specs.declared.event.Event.TheVariants.{Packet, Returned}
use Rattle.bfd_session.specs.Arrivals.{Reflected, comes_to}
use Rattle.bfd_session.specs.Reaching.{IsTaken}
use Rattle.bfd_instance.proofs.Comings.{within}
use Rattle.bfd_instance.proofs.world.arrive.Goals as goal

pub returns-in-Ok-Session-clause-within : goal.returns-in-Ok-Session-clause-within
returns-in-Ok-Session-clause-within g c =
    let ss = c.args.sessions.now.sessions in
    let taken : IsTaken (configs_of ss) c.in-Ok-Session.place (Packet c.args.arrival) = search rules in
    within ss c.in-Ok-Session.place (Packet c.args.arrival) taken

pub returns-in-Ok-Echo-clause-within : goal.returns-in-Ok-Echo-clause-within
returns-in-Ok-Echo-clause-within g c =
    let ss = c.args.sessions.now.sessions in
    let taken : IsTaken (configs_of ss) c.in-Ok-Echo.place (Returned c.in-Ok-Echo.sequence) = search rules in
    within ss c.in-Ok-Echo.place (Returned c.in-Ok-Echo.sequence) taken

pub returns-in-Ok-Reflector-clause-turn : goal.returns-in-Ok-Reflector-clause-turn
returns-in-Ok-Reflector-clause-turn g c =
    let t = c.args.table.now in let ss = c.args.sessions.now.sessions in let last = c.args.sessions.now.last in
    let is : comes_to (table_of t.configs t.pool) c.args.arrival ≡ Reflected c.in-Ok-Reflector.place = search rules in
    c.answered.ensures.turn ss last ∙ sym (ap (λ d. carried_out (arriving c.args.moment c.args.arrival d) (world_of ss t.pool last)) is)
