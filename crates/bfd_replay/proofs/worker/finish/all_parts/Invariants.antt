-- Those so far ended with parts.
use Rattle.bfd_replay.proofs.WorkerCommon.{◌≡◌, ◌++◌, Ok, map, seen_as}
use Rattle.bfd_replay.proofs.worker.finish.all_parts.Given as goal

abbrev pub invariant-loop-reported : goal.invariant-loop-reported
invariant-loop-reported l = record {
  can : goal.iterator-loop-reported.can_next l.reported-iterator;
  ends : goal.iterator-loop-reported.is_finite l.reported-iterator;
  all : l.yielded ++ l.reported-iterator.rest.items ≡ l.fn.worker_parts.items;
  so_far : map (seen_as (λ parts. parts.items)) l.yielded ≡ map Ok (map (λ parts. parts.items) l.all.items);
}
