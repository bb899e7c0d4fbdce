-- The passes so far are joined.
use Rattle.std.proofs.Common.{◌≡◌, ◌≤◌, ◌++◌, length, map, vec_capacity}
use Rattle.bfd_thread_tests.specs.Joining.{HasJoined}
use Rattle.bfd_thread_tests.proofs.embedding.passes.join_all.Given as goal

abbrev pub invariant-loop-job : goal.invariant-loop-job
invariant-loop-job g l = record {
  can : (goal.iterator-loop-job g).can_next l.job-iterator;
  ends : (goal.iterator-loop-job g).is_finite l.job-iterator;
  all : l.yielded ++ l.job-iterator.rest.items ≡ l.fn.jobs.items;
  joined : HasJoined l.engine l.initial.first l.first l.yielded;
  saw : map (λ saw. saw.items) l.list.items ≡ map (λ j. j.saw.items) l.yielded;
  room : length l.fn.jobs.items ≤ vec_capacity l.list;
}
