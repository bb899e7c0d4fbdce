-- So many calls are behind the job.
use Rattle.std.proofs.Common.{◌≡◌, ◌+◌, length}
use Rattle.bfd_thread_tests.specs.Calling.{HasCalled}
use Rattle.bfd_thread_tests.proofs.embedding.threads.work.Given as goal

abbrev pub invariant-loop-count : goal.invariant-loop-count
invariant-loop-count g l = record {
  worked : HasCalled l.engine l.initial.job l.job;
  left : l.count + length l.job.calls.items ≡ length l.initial.job.calls.items;
}
