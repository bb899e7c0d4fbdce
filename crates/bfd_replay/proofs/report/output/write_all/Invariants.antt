use Rattle.bfd_replay.proofs.ReportCommon.{◌≡◌, length, TookUpTo}
use Rattle.bfd_replay.proofs.report.output.write_all.Given as goal

-- a prefix of the text was accepted, the rest is still to be written, and no write failed
abbrev pub invariant-pieces : goal.invariant-pieces
invariant-pieces g l = TookUpTo (g.K.Sink.taken l.initial.sink) (g.K.Sink.taken l.sink) l.text l.rest
    × (g.K.Sink.faults l.sink ≡ g.K.Sink.faults l.initial.sink)

abbrev pub decreases-pieces : goal.decreases-pieces
decreases-pieces g l = length l.rest
