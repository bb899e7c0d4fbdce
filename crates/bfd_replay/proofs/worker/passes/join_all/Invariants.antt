-- The passes so far are joined.
use Rattle.bfd_replay.proofs.WorkerCommon.{◌≡◌, ◌++◌, map, AllJobsJoined, seen_as}
use Rattle.bfd_replay.proofs.worker.passes.join_all.Given as goal

abbrev pub invariant-loop-job : goal.invariant-loop-job
invariant-loop-job g l = record {
  can : (goal.iterator-loop-job g).can_next l.job-iterator;
  ends : (goal.iterator-loop-job g).is_finite l.job-iterator;
  all : l.yielded ++ l.job-iterator.rest.items ≡ l.fn.jobs.items;
  joined : AllJobsJoined l.engine 200000 l.initial.first l.first l.yielded;
  reported : map (seen_as (λ parts. parts.items)) l.worker_parts.items ≡ map (λ w. w.reported) l.yielded;
}
