-- The parts' text was passed on.
use Rattle.bfd_replay.proofs.StreamCommon.{◌++◌, PendingLines, TookFront, ap, subst}
use Rattle.bfd_replay.specs.Spread.{dealt_text}
use Rattle.bfd_replay.proofs.stream.pending.Pending.gather.Goals as goal

pub returns-in-Ok-clause-front : goal.returns-in-Ok-clause-front
returns-in-Ok-clause-front g c = λ dealt spread. subst (λ t. TookFront (g.K.Sink.taken c.args.sink.now) (g.K.Sink.taken c.give_all.new.sink)
    (t ++ dealt_text dealt)) (ap (λ (t : PendingLines). t.text) c.self.view_is)
    (c.give_all.ensures.front dealt spread)

pub returns-clause-front : goal.returns-clause-front
returns-clause-front g c = λ dealt spread. subst (λ t. TookFront (g.K.Sink.taken c.args.sink.now) (g.K.Sink.taken c.give_all.new.sink)
    (t ++ dealt_text dealt)) (ap (λ (t : PendingLines). t.text) c.self.view_is)
    (c.give_all.ensures.front dealt spread)
