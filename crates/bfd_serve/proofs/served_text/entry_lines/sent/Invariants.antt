-- The outputs so far are counted.
use Rattle.bfd_serve.proofs.ServedTextCommon.{◌≡◌, ◌≤◌, take, sum_by, packets_sent_by}
use Rattle.bfd_serve.proofs.served_text.entry_lines.sent.Given as goal

abbrev pub invariant-loop-out : goal.invariant-loop-out
invariant-loop-out l = record {
  counted : l.count ≡ sum_by packets_sent_by (take l.out-index l.outs);
  few : l.count ≤ l.out-index;
}
