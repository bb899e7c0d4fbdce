-- What the event's parts give, from outputs before it, is the event; the answer is built from the flow after settling.
use Rattle.bfd_session.proofs.Common.{◌∙◌, ap, Running, emits, stepped_flow}
use Rattle.bfd_session.proofs.Machines.{stepped, answered, left_as}
use Rattle.bfd_session.proofs.plain.steps.Goals as goal

pub returns-clause-session : goal.returns-clause-session
returns-clause-session g c =
    let s : Running = g.M.PlainMachine.running_of c.args.machine.now in
    let s1 : Running = g.M.PlainMachine.running_of c.settles-mark.new.self in
    let s2 : Running = g.M.PlainMachine.running_of c.acts-answer.new.self in
    c.ends.ensures.session ∙ left_as s s2 c.args.outs.now.items (stepped_flow c.args.eff c.args.event.now s)
    (c.acts-answer.ensures.config ∙ c.settles-mark.ensures.config)
    (stepped s s1 s2 c.args.eff c.args.event.now c.args.outs.now.items c.settles-mark.ensures.config c.acts-answer.ensures.config
    c.settles-mark.ensures.flow c.acts-answer.ensures.flow)

pub returns-clause-outs : goal.returns-clause-outs
unfolding emits
returns-clause-outs g c =
    let s : Running = g.M.PlainMachine.running_of c.args.machine.now in
    let s1 : Running = g.M.PlainMachine.running_of c.settles-mark.new.self in
    let s2 : Running = g.M.PlainMachine.running_of c.acts-answer.new.self in
    c.ends.ensures.outs ∙ ap (λ f. f.course.outs)
    (stepped s s1 s2 c.args.eff c.args.event.now c.args.outs.now.items c.settles-mark.ensures.config c.acts-answer.ensures.config
    c.settles-mark.ensures.flow c.acts-answer.ensures.flow)

pub returns-clause-answer : goal.returns-clause-answer
returns-clause-answer g c =
    let s : Running = g.M.PlainMachine.running_of c.args.machine.now in
    let s1 : Running = g.M.PlainMachine.running_of c.settles-mark.new.self in
    c.acts-answer.ensures.answer ∙ answered s s1 c.args.eff c.args.event.now c.args.outs.now.items c.settles-mark.ensures.config
    c.settles-mark.ensures.flow
