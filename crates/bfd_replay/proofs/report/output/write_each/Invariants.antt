-- The texts so far were accepted.
use Rattle.bfd_replay.proofs.ReportCommon.{◌≡◌, Appends, flat_map, take}
use Rattle.bfd_replay.proofs.report.output.write_each.Given as goal

abbrev pub invariant-loop-at : goal.invariant-loop-at
invariant-loop-at g l = record {
  took : Appends (g.K.Sink.taken l.initial.sink) (g.K.Sink.taken l.sink) (flat_map (λ t. t.items) (take l.at l.texts));
  calm : g.K.Sink.faults l.sink ≡ g.K.Sink.faults l.initial.sink;
}
