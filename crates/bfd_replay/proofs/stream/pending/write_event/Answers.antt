-- Out of memory, the sink accepted nothing.
use Rattle.bfd_replay.proofs.StreamCommon.{◌++◌, event_lines, took_nothing}
use Rattle.bfd_replay.proofs.stream.pending.write_event.Goals as goal

pub returns-in-Err-clause-front : goal.returns-in-Err-clause-front
returns-in-Err-clause-front g c = took_nothing (g.K.Sink.taken c.args.sink.now)
    (c.args.text.now.items ++ event_lines c.args.number (record { items = c.args.outs.now.items; answer = c.args.answer.now }))
