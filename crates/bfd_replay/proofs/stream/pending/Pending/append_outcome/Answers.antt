-- A sink that is read gets the event's lines behind the text; of one that isn't, nothing is known.
use Rattle.bfd_replay.proofs.StreamCommon.{◌+◌, ◌++◌, PendingLines, TookFront, TookUpTo, ap, event_lines, subst, sym, took_nothing}
use Rattle.bfd_replay.proofs.Written.{took_unread}
use Rattle.bfd_replay.proofs.stream.pending.Pending.append_outcome.Goals as goal

pub returns-in_default-clause-front : goal.returns-in_default-clause-front
returns-in_default-clause-front g c = took_nothing (g.K.Sink.taken c.args.sink.now)
    (c.args.self.now.text ++ event_lines (c.args.self.now.events + 1)
    (record { items = c.args.outs.now.items; answer = c.args.answer.now }))

pub returns-then-is_read-clause-front : goal.returns-then-is_read-clause-front
returns-then-is_read-clause-front g c =
    subst (TookFront (g.K.Sink.taken c.args.sink.now) (g.K.Sink.taken c.write_event.new.sink))
    (cc (ap (λ (t : PendingLines). t.text) c.self.view_is, c.in-Ok.ensures.text, c.number-number.ensures)) c.write_event.ensures.front

pub returns-else-is_read-clause-text : goal.returns-else-is_read-clause-text
returns-else-is_read-clause-text g c =
    subst (TookUpTo (g.K.Sink.taken c.args.sink.now) (g.K.Sink.taken c.args.sink.now) (c.args.self.now.text
    ++ event_lines (c.args.self.now.events + 1) (record { items = c.args.outs.now.items; answer = c.args.answer.now })))
    (sym c.clear.ensures.items) (took_unread _ _ (c.is_read.ensures c.if-is_read.false))
