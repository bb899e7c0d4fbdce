-- The outputs so far are counted.
use Rattle.bfd_replay.proofs.ReportCommon.{◌≡◌, ◌≤◌, take, packets_sent_by}
use Rattle.std.specs.Prelude.{sum_by}
use Rattle.bfd_replay.proofs.report.counts.sent.Given as goal

abbrev pub invariant-loop-out : goal.invariant-loop-out
invariant-loop-out l = record {
  counted : l.count ≡ sum_by packets_sent_by (take l.out-index l.outs);
  few : l.count ≤ l.out-index;
}
