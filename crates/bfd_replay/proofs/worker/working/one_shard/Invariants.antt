-- The events up to here were done.
use Rattle.bfd_replay.proofs.WorkerCommon.{◌≡◌, length, IsOf, AllThere, AreMet}
use Rattle.bfd_replay.proofs.Courses.{InQueue}
use Rattle.bfd_replay.proofs.worker.working.one_shard.Given as goal

abbrev pub invariant-events : goal.invariant-events
invariant-events g l = record {
  of : IsOf l.engine l.pass.1;
  there : AllThere l.pass.1;
  met : AreMet l.engine l.shard l.left;
  room : l.outs.room ≡ l.initial.outs.room;
  did : InQueue l.engine l.shard l.fn.queue l.left l.initial.pass l.pass l.part;
}

abbrev pub decreases-events : goal.decreases-events
decreases-events g l = length l.left
