-- The marks that are left have the rest of the packets.
use Rattle.bfd_replay.proofs.ReportCommon.{◌≡◌, ◌≤◌, ◌+◌, drop, Mark, sum_by}
use Rattle.bfd_replay.proofs.report.part.counts_of.Given as goal

abbrev pub invariant-loop-at : goal.invariant-loop-at
invariant-loop-at l = record {
  sent : l.txs + sum_by (λ (m : Mark). m.txs) (drop l.at l.marks) ≡ sum_by (λ (m : Mark). m.txs) l.marks;
  fell : l.drops + sum_by (λ (m : Mark). m.drops) (drop l.at l.marks) ≡ sum_by (λ (m : Mark). m.drops) l.marks;
  few : l.txs + l.drops + sum_by (λ (m : Mark). m.long) (drop l.at l.marks) ≤ sum_by (λ (m : Mark). m.long) l.marks;
}
