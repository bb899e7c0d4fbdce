-- The end of an event leaves what the Echo function runs by.
use Rattle.bfd_session.proofs.Common.{course, IsEchoOver}
use Rattle.bfd_session.proofs.EchoKept.{finish_keeps_echo}
use Rattle.bfd_session.proofs.point.finishes.Goals as goal

pub returns-clause-echo_over : goal.returns-clause-echo_over
returns-clause-echo_over c = λ limit reached over.
    let here : IsEchoOver limit c.args.p.now.config c.finish.new.self.vars c.args.echo.now =
    rw c.finish.ensures.vars (finish_keeps_echo c.args.p.now.config limit c.args.eff
    (course c.args.p.now.vars c.args.mark c.args.outs.now.items) c.args.echo.now over) in
    c.turns_echo.ensures.over limit reached (rw c.finish.ensures.config here)
