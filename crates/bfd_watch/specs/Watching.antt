-- What a client of a shard has.
use Rattle.std.specs.Prelude.{◌≡◌, ◌+◌, ◌*◌, ◌<◌, ℕ, List, length}
use Rattle.bfd_rules.specs.EventFrame.{Outputs}
use Rattle.bfd_session.specs.declared.event.SessionConfig.{SessionConfig}
use Rattle.bfd_shard.specs.declared.entry.Entry.{Entry}
use Rattle.bfd_shard.specs.Shard.{Shard}
use Rattle.bfd_shard.specs.History.{events_of, last_tick, outcome_of, runs}
use Rattle.bfd_watch.specs.declared.change.Change.{Change}
use Rattle.bfd_watch.specs.declared.change.WatchFault.{WatchFault}
use Rattle.bfd_watch.specs.declared.change.WatchFault.TheVariants.{Full, Memory}
use Rattle.bfd_watch.specs.Changes.{changes_in}

-- a watch, as its callers see it: the configurations of the shard that is followed, the entries received, and the limit on
-- their number
pub record Watching : Type 0 where
  pub configs : List SessionConfig
  pub entries : List Entry
  pub limit : ℕ

abbrev pub watching : List SessionConfig → List Entry → ℕ → Watching
watching configs entries limit = record { configs = configs; entries = entries; limit = limit }

-- there is room for the outputs of every event of the shard, whose limit is the watch's
pub record IsWatch (shard : Shard) (outs : Outputs) (limit : ℕ) : Type 0 where
  pub room : outs.room ≡ 5 * length shard.sessions + 5
  pub limits : shard.limit ≡ limit

-- what a refusal says of the watch: it is full, with this number of entries, which is its limit; or it ran out of memory below that
abbrev pub IsWatchFault : WatchFault → Watching → Type 0
IsWatchFault (Full count) watch = (count ≡ length watch.entries) × (length watch.entries ≡ watch.limit)
IsWatchFault Memory watch = length watch.entries < watch.limit

-- the changes that one more entry reports: those of its outputs, of the sessions as the entries before have left them
abbrev pub reported_by : Watching → Entry → List Change
reported_by watch entry =
    changes_in (length watch.entries + 1)
    (outcome_of (last_tick (events_of watch.entries)) entry.event (runs (events_of watch.entries) watch.configs)).items
