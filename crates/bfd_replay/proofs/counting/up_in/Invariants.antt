-- The sessions so far are counted.
use Rattle.bfd_replay.proofs.WorkerCommon.{◌≡◌, ◌≤◌, take, sum_by, one_up}
use Rattle.bfd_replay.proofs.counting.up_in.Given as goal

abbrev pub invariant-loop-seat : goal.invariant-loop-seat
invariant-loop-seat l = record {
  count : l.count ≡ sum_by one_up (take l.seat-index l.sessions);
  few : l.count ≤ l.seat-index;
}
