-- Before the part's text was taken the sink accepted nothing.
use Rattle.bfd_replay.proofs.ReportCommon.{◌++◌, texts}
use Rattle.bfd_replay.proofs.Written.{took_nothing}
use Rattle.bfd_replay.proofs.report.giving.give_sole.Goals as goal

pub returns-in_default-clause-front : goal.returns-in_default-clause-front
returns-in_default-clause-front g c = took_nothing (g.K.Sink.taken c.args.sink.now) (c.args.text.now.items ++ texts c.args.part.now)
