-- What the tick's parts give, from outputs before it, is the tick.
use Rattle.bfd_session.proofs.Common.{◌∙◌, ap, refl, Running, tick_emits, ticked_flow}
use Rattle.bfd_session.proofs.Machines.{ticked, left_as}
use Rattle.bfd_session.proofs.plain.ticks.Goals as goal

pub returns-clause-session : goal.returns-clause-session
returns-clause-session g c =
    let s : Running = g.M.PlainMachine.running_of c.args.machine.now in
    let s1 : Running = g.M.PlainMachine.running_of c.settles-mark.new.self in
    c.ends.ensures.session ∙ left_as s s1 c.args.outs.now.items (ticked_flow c.args.limit c.args.eff s) c.settles-mark.ensures.config
    (ticked s s1 c.args.limit c.args.eff c.args.outs.now.items c.settles-mark.ensures.config c.settles-mark.ensures.flow)

pub returns-clause-outs : goal.returns-clause-outs
unfolding tick_emits
returns-clause-outs g c =
    let s : Running = g.M.PlainMachine.running_of c.args.machine.now in
    let s1 : Running = g.M.PlainMachine.running_of c.settles-mark.new.self in
    c.ends.ensures.outs ∙ ap (λ f. f.course.outs)
    (ticked s s1 c.args.limit c.args.eff c.args.outs.now.items c.settles-mark.ensures.config c.settles-mark.ensures.flow)

pub returns-clause-over : goal.returns-clause-over
returns-clause-over g c = λ t at reached.
    c.ends.ensures.over c.args.limit t at reached (c.settles-mark.ensures.settled refl reached c.requires.sound)
