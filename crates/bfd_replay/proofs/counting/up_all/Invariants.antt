-- The shards so far are counted.
use Rattle.bfd_replay.proofs.WorkerCommon.{◌≡◌, ◌≤◌, ◌<◌, ◌*◌, ℕ, slice_index_or, sum_by, Shard, IsShard, one_up, sum_to}
use Rattle.bfd_replay.proofs.counting.up_all.Given as goal

abbrev pub invariant-loop-k : goal.invariant-loop-k
invariant-loop-k g l = record {
  count : (d : Shard) → l.count ≡ sum_to (λ k. sum_by one_up (slice_index_or l.states.items k d).sessions) l.k;
  few : l.count ≤ 65536 * l.k;
  kept : (k : ℕ) (d : Shard) → k < l.k → IsShard (slice_index_or l.states.items k d);
}
