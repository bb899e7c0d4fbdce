-- What the tick's parts give, from outputs before it, is the tick.
use Rattle.bfd_session.proofs.Common.{◌∙◌, point_of, Running, ticked_flow}
use Rattle.bfd_session.proofs.DueTick.{point_over}
use Rattle.bfd_session.proofs.Front.{tick_vars, tick_echo, tick_number, tick_outs}
use Rattle.bfd_session.proofs.Machines.{point_with}
use Rattle.bfd_session.proofs.point.ticks.Goals as goal

pub returns-clause-session : goal.returns-clause-session
returns-clause-session c =
    let s : Running = point_of c.args.p.now c.args.echo.now c.args.next.now in
    point_with c.args.p.now c.args.echo.now c.args.next.now (ticked_flow c.args.limit c.args.eff s) c.passes.ensures.config
    (c.passes.ensures.vars ∙ tick_vars s c.args.limit c.args.eff c.args.outs.now.items)
    (c.passes.ensures.echo ∙ tick_echo s c.args.limit c.args.eff c.args.outs.now.items)
    (c.passes.ensures.next ∙ tick_number s c.args.limit c.args.eff c.args.outs.now.items)

pub returns-clause-outs : goal.returns-clause-outs
returns-clause-outs c = c.passes.ensures.outs ∙ tick_outs (point_of c.args.p.now c.args.echo.now c.args.next.now) c.args.limit c.args.eff
    c.args.outs.now.items

pub returns-clause-over : goal.returns-clause-over
returns-clause-over c = λ t at reached.
    point_over c.passes.new.p c.passes.new.echo c.passes.new.next c.args.limit t at (c.passes.ensures.over reached)
    (c.passes.ensures.echo_over reached)
