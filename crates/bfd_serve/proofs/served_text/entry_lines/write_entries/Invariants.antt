-- The shard took the entries so far; with those that are left, the text and the count are the whole.
use Rattle.bfd_serve.proofs.ServedTextCommon.{◌≡◌, ◌≤◌, ◌+◌, ◌++◌, [], length, take, drop, configs_of, entries_text, entries_sent}
use Rattle.bfd_serve.proofs.served_text.entry_lines.write_entries.Given as goal

abbrev pub invariant-loop-entry : goal.invariant-loop-entry
invariant-loop-entry g l = record {
  journal : l.shard.journal ≡ take l.entry-index l.journal;
  limit : l.shard.limit ≡ length l.journal;
  configs : configs_of l.shard.sessions ≡ configs_of l.initial.shard.sessions;
  room : l.outs.room ≡ l.initial.outs.room;
  text : l.text.items ++ entries_text (configs_of l.initial.shard.sessions) (take l.entry-index l.journal) (drop l.entry-index l.journal)
      ≡ l.initial.text.items ++ entries_text (configs_of l.initial.shard.sessions) [] l.journal;
  sent : l.count + entries_sent (configs_of l.initial.shard.sessions) (take l.entry-index l.journal) (drop l.entry-index l.journal)
      ≡ entries_sent (configs_of l.initial.shard.sessions) [] l.journal;
  few : length l.initial.text.items + l.count + l.entry-index ≤ length l.text.items;
}
