-- The links and passes so far are in jobs.
use Rattle.bfd_serve.proofs.Common.{◌≡◌, ◌≤◌, ◌++◌, length, map, vec_capacity, pass_of, link_of}
use Rattle.bfd_serve.proofs.serving.pair_up.Given as goal

abbrev pub invariant-loop-link : goal.invariant-loop-link
invariant-loop-link g l = record {
  can : (goal.iterator-loop-link g).can_next l.link-iterator;
  ends : (goal.iterator-loop-link g).is_finite l.link-iterator;
  all : l.yielded ++ l.link-iterator.rest.items ≡ l.fn.links.items;
  links : map link_of l.jobs.items ≡ l.yielded;
  passes : map pass_of l.jobs.items ++ l.passes.items ≡ l.fn.passes.items;
  long : length l.fn.passes.items ≡ length l.fn.links.items;
  room : length l.fn.links.items ≤ vec_capacity l.jobs;
}
