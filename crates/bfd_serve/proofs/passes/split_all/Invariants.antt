-- The passes so far were split off.
use Rattle.bfd_serve.proofs.Common.{◌≡◌, ◌≤◌, vec_capacity, HasSplit}
use Rattle.bfd_serve.proofs.passes.split_all.Given as goal

abbrev pub invariant-loop : goal.invariant-loop
invariant-loop g l = record {
  split : HasSplit l.engine l.first l.passes.items l.counter;
  used : l.first.2 ≡ l.counter;
  room : l.count ≤ vec_capacity l.passes;
}
