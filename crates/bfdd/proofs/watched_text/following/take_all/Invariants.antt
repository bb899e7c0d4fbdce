-- With the entries that are left, those taken so far are all, and so is what they report.
use Rattle.std.proofs.Common.{◌≡◌, ◌++◌}
use Rattle.bfd_engine.specs.Reads.{AreGiven}
use Rattle.bfdd.specs.Following.{reported_after}
use Rattle.bfdd.proofs.watched_text.following.take_all.Given as goal

abbrev pub invariant-loop-entry : goal.invariant-loop-entry
invariant-loop-entry g l = record {
  configs : l.watch.configs ≡ l.initial.watch.configs;
  limit : l.watch.limit ≡ l.initial.watch.limit;
  given : AreGiven l.watch.configs l.entry-iterator.rest.items;
  taken : l.watch.entries ++ l.entry-iterator.rest.items ≡ l.initial.watch.entries ++ l.fn.entries.items;
  reported : l.reported.items ++ reported_after l.watch l.entry-iterator.rest.items ≡ reported_after l.initial.watch l.fn.entries.items;
}
