-- With the entries that are left, those taken so far are all.
use Rattle.std.proofs.Common.{◌≡◌, ◌++◌, drop}
use Rattle.bfd_thread_tests.specs.Following.{AreItsChanges}
use Rattle.bfd_thread_tests.proofs.clients.take_all.Given as goal

abbrev pub invariant-loop-entry : goal.invariant-loop-entry
invariant-loop-entry l = record {
  reported : AreItsChanges l.client.watch l.client.reported.items;
  taken : l.client.watch.entries ++ drop l.entry-index l.list ≡ l.initial.client.watch.entries ++ l.list;
}
