-- The queues up to here are taken out where they are the worker's own.
use Rattle.bfd_replay.proofs.Owning.{InOwn}
use Rattle.bfd_replay.proofs.worker.jobs.own_queues.Given as goal

abbrev pub invariant-loop-shard : goal.invariant-loop-shard
invariant-loop-shard l = record {
  own : InOwn l.workers l.at l.shard l.initial.queues.items l.queues.items l.own.items;
}
