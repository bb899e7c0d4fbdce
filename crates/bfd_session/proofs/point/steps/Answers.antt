-- What the event's parts give, from outputs before it, is the event; the answer is built from the flow after settling.
use Rattle.bfd_session.proofs.Common.{◌∙◌, point_of, Running, stepped_flow}
use Rattle.bfd_session.proofs.Front.{step_vars, step_echo, step_number, step_outs, reply_law}
use Rattle.bfd_session.proofs.Machines.{point_with}
use Rattle.bfd_session.proofs.point.steps.Goals as goal

pub returns-clause-session : goal.returns-clause-session
returns-clause-session c =
    let s : Running = point_of c.args.p.now c.args.echo.now c.args.next.now in
    point_with c.args.p.now c.args.echo.now c.args.next.now (stepped_flow c.args.eff c.args.event.now s) c.runs.ensures.config
    (c.runs.ensures.vars ∙ step_vars s c.args.eff c.args.event.now c.args.outs.now.items)
    (c.runs.ensures.echo ∙ step_echo s c.args.eff c.args.event.now c.args.outs.now.items)
    (c.runs.ensures.next ∙ step_number s c.args.eff c.args.event.now c.args.outs.now.items)

pub returns-clause-outs : goal.returns-clause-outs
returns-clause-outs c = c.runs.ensures.outs ∙ step_outs (point_of c.args.p.now c.args.echo.now c.args.next.now) c.args.eff c.args.event.now
    c.args.outs.now.items

pub returns-clause-answer : goal.returns-clause-answer
returns-clause-answer c =
    c.runs.ensures.answer ∙ reply_law (point_of c.args.p.now c.args.echo.now c.args.next.now) c.args.eff c.args.event.now
    c.args.outs.now.items
