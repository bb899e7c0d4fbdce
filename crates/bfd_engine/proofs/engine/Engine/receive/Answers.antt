-- An arrival resolves to what the table says of it.
use Rattle.bfd_engine.proofs.Common.{Err, Session, Echo, sym, subst}
use Rattle.bfd_demux.specs.declared.target.Target.TheVariants.{Reflector}
use Rattle.bfd_engine.proofs.Comings.{Says, selected, unanswered}
use Rattle.bfd_engine.proofs.Verdicts.{Judged, judged_packet, judged_return}
use Rattle.bfd_engine.proofs.engine.Engine.receive.Goals as goal

pub returns-in-Ok-Session-clause-judged : goal.returns-in-Ok-Session-clause-judged
returns-in-Ok-Session-clause-judged g c =
    let e = c.args.self.now in
    let own = c.own in
    let says = c.in-Ok-Session.ensures in
    let s = selected c.args.arrival {target = Session c.in-Ok-Session.k} c.self.view_is c.in-Ok-Session.field-0-is
    (says.coming, says.reaches, says.tests) in
    subst (Judged e c.args.moment c.args.arrival own.new.pass own.result) (sym s.0)
    (judged_packet e c.args.moment c.args.arrival c.args.pass.now own.new.pass c.args.outs.now.items own.new.outs.items own.result
    c.in-Ok-Session.k (rw (← c.self.view_is) c.self.invariant.some) s.2 s.1 own.ensures.call)

pub returns-in-Ok-Echo-clause-judged : goal.returns-in-Ok-Echo-clause-judged
returns-in-Ok-Echo-clause-judged g c =
    let e = c.args.self.now in
    let own = c.own-in-Ok-Echo in
    let says = c.in-Ok-Echo.ensures in
    let s = selected c.args.arrival {target = Echo c.in-Ok-Echo.k c.in-Ok-Echo.sequence} c.self.view_is c.in-Ok-Echo.field-0-is
    (says.coming, says.reaches, says.tests) in
    subst (Judged e c.args.moment c.args.arrival own.new.pass own.result) (sym s.0)
    (judged_return e c.args.moment c.args.arrival c.args.pass.now own.new.pass c.args.outs.now.items own.new.outs.items own.result
    c.in-Ok-Echo.k c.in-Ok-Echo.sequence (rw (← c.self.view_is) c.self.invariant.some) s.1 own.ensures.call)

pub returns-in-Ok-Reflector-clause-call : goal.returns-in-Ok-Reflector-clause-call
returns-in-Ok-Reflector-clause-call g c =
    let says = c.in-Ok-Reflector.ensures in
    let s = selected c.args.arrival {target = Reflector c.in-Ok-Reflector.place} c.self.view_is c.in-Ok-Reflector.field-0-is
    (says.coming, says.reaches, says.tests) in
    (unanswered c.args.self.now c.args.moment c.args.arrival c.args.pass.now c.args.outs.now.items c.in-Ok-Reflector.place
    c.in-Err-reflected.test s.0
    (subst (Says c.args.arrival (Err c.in-Err-reflected.test)) c.self.view_is c.in-Err-reflected.ensures)).0
