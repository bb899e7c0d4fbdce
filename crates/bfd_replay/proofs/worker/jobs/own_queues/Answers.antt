-- One more queue.
use Rattle.bfd_replay.proofs.WorkerCommon.{rules}
use Rattle.bfd_replay.proofs.Owning.{own_none, own_more}
use Rattle.bfd_replay.proofs.worker.jobs.own_queues.Goals as goal

pub loop-shard-init : goal.loop-shard-init
loop-shard-init c = record {
  own = own_none c.args.workers c.args.at c.args.queues.now.items c.new-own.result.items (cc);
}

pub loop-shard-preserved : goal.loop-shard-preserved
loop-shard-preserved c = record {
  own = own_more c.args.workers c.args.at c.loop-shard.shard _ c.args.queues.now.items c.loop-shard.queues.items c.take_own.new.queues.items
      c.loop-shard.own.items c.push.new.self.items c.take_own.result (search rules) c.take_own.ensures.taken
      c.in_ok-push.ensures.items
      c.take_own.ensures.long
      c.take_own.ensures.others (λ e. cc (c.take_own.ensures.left e)) c.loop-shard.invariant.own;
}
