-- The parts of the shards so far, and those that are left.
use Rattle.bfd_replay.proofs.WorkerCommon.{length, map}
use Rattle.bfd_replay.proofs.Ordering.{InOrder}
use Rattle.bfd_replay.proofs.worker.finish.in_order.Given as goal

abbrev pub invariant-loop-shard : goal.invariant-loop-shard
invariant-loop-shard l = record {
  order : InOrder l.shards (length l.initial.all.items) l.shard (map (λ parts. parts.items) l.initial.all.items)
      (map (λ parts. parts.items) l.all.items) l.parts.items;
}
