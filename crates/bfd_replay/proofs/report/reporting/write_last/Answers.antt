-- What is left is written as far as the sink accepts it.
use Rattle.bfd_replay.proofs.ReportCommon.{◌≡◌, ◌++◌, done_line}
use Rattle.std.proofs.Common.{rules}
use Rattle.bfd_replay.proofs.Written.{took_nothing}
use Rattle.bfd_replay.proofs.report.reporting.write_last.Goals as goal

pub returns-in_default-clause-front : goal.returns-in_default-clause-front
returns-in_default-clause-front g c = took_nothing (g.K.Sink.taken c.args.sink.now)
    (c.args.text.items ++ done_line c.args.events c.args.txs c.args.drops)

pub returns-in_default-extend_from_slice-clause-front : goal.returns-in_default-extend_from_slice-clause-front
returns-in_default-extend_from_slice-clause-front g c =
    took_nothing (g.K.Sink.taken c.args.sink.now) (c.args.text.items ++ done_line c.args.events c.args.txs c.args.drops)

pub returns-clause-front : goal.returns-clause-front
returns-clause-front g c =
    let whole : c.as_slice.result.now ≡ c.args.text.items ++ done_line c.args.events c.args.txs c.args.drops = search rules in
    rw (← whole) c.write_all.ensures.front
