-- The jobs so far are taken apart.
use Rattle.bfd_serve.proofs.Common.{◌≡◌, ◌≤◌, ◌+◌, ◌++◌, length, map, vec_capacity, sum, risen, pass_of, link_of, end_of_job, lost_of}
use Rattle.bfd_serve.proofs.serving.take_apart.Given as goal

abbrev pub invariant-loop-job : goal.invariant-loop-job
invariant-loop-job g l = record {
  can : (goal.iterator-loop-job g).can_next l.job-iterator;
  finite : (goal.iterator-loop-job g).is_finite l.job-iterator;
  all : l.yielded ++ l.job-iterator.rest.items ≡ l.fn.jobs.items;
  passes : l.passes.items ≡ map pass_of l.yielded;
  links : l.links.items ≡ map link_of l.yielded;
  ends : l.ends.items ≡ l.fn.ends.items ++ map end_of_job l.yielded;
  lost : l.lost ≡ risen l.fn.lost (sum (map lost_of l.yielded));
  room_passes : length l.fn.jobs.items ≤ vec_capacity l.passes;
  room_links : length l.fn.jobs.items ≤ vec_capacity l.links;
  room_ends : length l.fn.ends.items + length l.fn.jobs.items ≤ vec_capacity l.ends;
}
