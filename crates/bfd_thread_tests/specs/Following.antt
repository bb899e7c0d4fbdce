-- A client of a shard.
use Rattle.std.specs.Prelude.{◌≡◌, List}
use Rattle.bfd_shard.specs.declared.entry.Entry.{Entry}
use Rattle.bfd_shard.specs.History.{events_of}
use Rattle.bfd_watch.specs.declared.change.Change.{Change}
use Rattle.bfd_watch.specs.Changes.{history_changes}
use Rattle.bfd_watch.specs.Watching.{Watching}

-- these are the changes of the entries that the watch has received: each once and in order
abbrev pub AreItsChanges : Watching → List Change → Type 0
AreItsChanges watch reported = reported ≡ history_changes watch.configs (events_of watch.entries)

-- a client whose watch has received these entries, and which has received their changes
pub record IsClientReported (seen : List Entry) (watch : Watching) (reported : List Change) : Type 0 where
  pub taken : watch.entries ≡ seen
  pub changes_are : AreItsChanges watch reported
