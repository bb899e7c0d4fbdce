-- The jobs so far.
use Rattle.std.proofs.Common.{◌≤◌, map}
use Rattle.std.specs.List.{All}
use Rattle.bfd_thread_tests.specs.Joining.{HasOpen}
use Rattle.bfd_thread_tests.specs.Ready.{IsJobReady, number_of}
use Rattle.bfd_thread_tests.proofs.eight.jobs.Given as goal

abbrev pub invariant-loop-number : goal.invariant-loop-number
invariant-loop-number l = record {
  passes : HasOpen l.engine l.first (map number_of l.list.items);
  used : l.first.2 ≤ l.number;
  ready : All (λ j. IsJobReady l.engine j) l.list.items;
}
