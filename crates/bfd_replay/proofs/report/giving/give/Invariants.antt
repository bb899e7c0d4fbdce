-- What is left of the pieces is dealt out to the parts; the others were taken, and passed on or kept. No write failed.
use Rattle.bfd_replay.proofs.ReportCommon.{◌≡◌, List, length, map, Dealt, IsSpread, first_key, keys, sum_by}
use Rattle.bfd_replay.proofs.PiecesGiven.{Giving}
use Rattle.bfd_replay.proofs.report.giving.give.Given as goal

abbrev pub invariant-loop-s : goal.invariant-loop-s
invariant-loop-s g l = record {
  goes : (dealt : List Dealt) → IsSpread dealt l.initial.rests.items
      → Giving dealt l.rests.items (g.K.Sink.taken l.initial.sink) (g.K.Sink.taken l.sink) l.initial.text.items l.text.items l.counts.0
      l.counts.1;
  heads : keys l.heads ≡ map first_key l.rests.items;
  calm : g.K.Sink.faults l.sink ≡ g.K.Sink.faults l.initial.sink;
}

abbrev pub decreases-loop-s : goal.decreases-loop-s
decreases-loop-s g l = sum_by length l.rests.items
