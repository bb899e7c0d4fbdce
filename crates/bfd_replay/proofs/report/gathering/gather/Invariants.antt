-- What is left of the pieces is dealt out to the parts, and the others were taken.
use Rattle.bfd_replay.proofs.ReportCommon.{List, length, map, ◌≡◌, ◌+◌, ◌≤◌, Dealt, IsSpread, first_key, keys, sum_by}
use Rattle.bfd_replay.proofs.Taking.{Going}
use Rattle.bfd_replay.proofs.report.gathering.gather.Given as goal

abbrev pub invariant-loop-s : goal.invariant-loop-s
invariant-loop-s l = record {
  goes : (dealt : List Dealt) → IsSpread dealt l.initial.rests.items
      → Going dealt l.rests.items l.initial.text.items l.text.items l.txs l.drops;
  heads : keys l.heads ≡ map first_key l.rests.items;
  few : l.txs + l.drops + length l.initial.text.items ≤ length l.text.items;
}

abbrev pub decreases-loop-s : goal.decreases-loop-s
decreases-loop-s l = sum_by length l.rests.items
