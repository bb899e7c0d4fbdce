-- The jobs so far, and the queues that are left for the others.
use Rattle.bfd_replay.proofs.WorkerCommon.{◌≡◌, ◌≤◌, ◌%◌, ℕ, [], length, slice_index_or, AreJobs}
use Rattle.bfd_replay.proofs.worker.passes.deal_jobs.Given as goal

abbrev pub invariant-loop-at : goal.invariant-loop-at
invariant-loop-at g l = record {
  jobs : AreJobs l.engine l.initial.queues.items l.workers l.at l.first l.jobs.items;
  long : length l.queues.items ≡ length l.initial.queues.items;
  left : (s : ℕ) → l.at ≤ s % l.workers → slice_index_or l.queues.items s [] ≡ slice_index_or l.initial.queues.items s [];
}
