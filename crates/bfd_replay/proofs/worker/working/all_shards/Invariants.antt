-- The shards up to here are done.
use Rattle.bfd_replay.proofs.WorkerCommon.{◌≡◌, ◌++◌, length}
use Rattle.bfd_replay.proofs.Courses.{OverShards}
use Rattle.bfd_replay.proofs.worker.working.all_shards.Given as goal

abbrev pub invariant-loop-queue : goal.invariant-loop-queue
invariant-loop-queue g l = record {
  can : (goal.iterator-loop-queue g).can_next l.queue-iterator;
  ends : (goal.iterator-loop-queue g).is_finite l.queue-iterator;
  all : l.yielded ++ l.queue-iterator.rest.items ≡ l.fn.queues.items;
  long : length l.parts.items ≡ length l.yielded;
  room : l.outs.room ≡ l.initial.outs.room;
  over : OverShards l.engine l.fn.queues.items l.initial.pass l.pass l.parts.items;
}
