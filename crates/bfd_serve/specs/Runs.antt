-- What a run did, by the histories of the closed shards.
use Rattle.std.specs.Prelude.{◌≡◌, ℕ, ◌+◌, ◌<◌, List, [], ◌∷◌, length, slice_get, slice_index_or, Option, None, Some}
use Rattle.std.specs.List.{sum}
use Rattle.bfd_turn.specs.Lists.{calls}
use Rattle.bfd_sbfd.specs.declared.reflecting.Reflector.{Reflector}
use Rattle.bfd_session.specs.declared.event.SessionConfig.{SessionConfig}
use Rattle.bfd_session.specs.Kinds.{configs_of}
use Rattle.bfd_shard.specs.declared.entry.Entry.{Entry}
use Rattle.bfd_shard.specs.Shard.{Shard, IsShard}
use Rattle.bfd_script.specs.declared.line.entries.Line.{Line}
use Rattle.bfd_script.specs.Reading.{Lists}
use Rattle.bfd_edge.specs.Faults.{risen}
use Rattle.bfd_edge.specs.Links.{LinkObserved}
use Rattle.bfd_edge.specs.Tickers.{TickerObserved}
use Rattle.bfd_engine.specs.Turned.{by}
use Rattle.bfd_shard.specs.Dealing.{share}
use Rattle.bfd_engine.specs.Engines.{Shards, configs_at}
use Rattle.bfd_engine.specs.Calls.{Act}
use Rattle.bfd_serve.specs.declared.ending.End.{End}
use Rattle.bfd_serve.specs.declared.ending.End.TheVariants.{Ended}
use Rattle.bfd_serve.specs.declared.serving.Limits.{Limits}
use Rattle.bfd_serve.specs.Calls.{calls_of, entries}
use Rattle.bfd_serve.specs.Serves.{TimerDid, WorkerDid}

abbrev pub journal_in : Option Shard → List Entry
journal_in (Some shard) = shard.journal
journal_in None = []

-- the history of the shard of this number, if there is one
abbrev pub history_at : List Shard → ℕ → List Entry
history_at shards number = journal_in (slice_get shards number)

-- no lock has met its last word
abbrev pub no_words : ℕ → ℕ
no_words shard = 0

-- what is observed of the link of a number, of caller 0's and the workers'
abbrev pub observed_on_link : {L : Type 0} → (L → LinkObserved) → L → List L → ℕ → LinkObserved
observed_on_link observed own links number = observed (slice_index_or (own ∷ links) number own)

-- what the timer did of all that it had to do at the ticks that its ticker gave: shard by shard, the entries of caller 0 in the
-- histories are those of its calls, without the calls that Full left out
pub record TimerRan (engine : Shards) (histories : ℕ → List Entry) (t u : LinkObserved) (c d : TickerObserved) (orders : List Line)
    (ticks : ℕ)
    (end : End) (missing : ℕ) : Type 0 where
  pub own : ℕ → List Entry
  pub own_is : (shard : ℕ) → shard < length engine.locks → calls by 0 (histories shard) ≡ own shard
  pub did : TimerDid engine own histories no_words t u c d orders ticks end missing

-- the same of the worker of this number, by the arrivals that its link gave
pub record WorkerRan (engine : Shards) (histories : ℕ → List Entry) (number : ℕ) (t u : LinkObserved) (turns : ℕ) (end : End)
    (missing : ℕ) : Type 0 where
  pub own : ℕ → List Entry
  pub own_is : (shard : ℕ) → shard < length engine.locks → calls by number (histories shard) ≡ own shard
  pub did : WorkerDid engine number own histories no_words t u turns end missing

-- what all did, when the links were observed as `before` and then as `after`, by number. No entry names any other caller
pub record HaveRun (engine : Shards) (histories : ℕ → List Entry) (orders : List Line) (workers : ℕ) (limits : Limits)
    (before after : ℕ → LinkObserved) (c d : TickerObserved) (ends : List End) (lost : ℕ) : Type 0 where
  pub timer_end : End
  pub timer_missing : ℕ
  pub timer : TimerRan engine histories (before 0) (after 0) c d orders limits.ticks timer_end timer_missing
  pub worker_ends : List End
  pub missing : List ℕ
  pub ends_are : ends ≡ timer_end ∷ worker_ends
  pub ends_long : length worker_ends ≡ workers
  pub missing_long : length missing ≡ workers
  pub each : (at : ℕ) → at < workers
      → WorkerRan engine histories (at + 1) (before (at + 1)) (after (at + 1)) limits.turns (slice_index_or worker_ends at Ended)
      (slice_index_or missing at 0)
  pub others : (number shard : ℕ) → shard < length engine.locks → workers < number → calls by number (histories shard) ≡ []
  pub lost_is : lost ≡ risen 0 (timer_missing + sum missing)

abbrev pub script_with : List SessionConfig → List Reflector → List Line → Lists
script_with configs pool events = record { configs = configs; pool = pool; events = events }

-- an engine that was opened with a script
pub record IsOpened (engine : Shards) (script : Lists) (shards journal : ℕ) : Type 0 where
  pub locks : length engine.locks ≡ shards
  pub configs : engine.configs ≡ script.configs
  pub pool : engine.pool ≡ script.pool
  pub limit : engine.limit ≡ journal

-- a closed shard of it: it was built from its share of the sessions, which are as its journal leaves them
pub record IsClosedShard (engine : Shards) (number : ℕ) (shard : Shard) : Type 0 where
  pub configs : configs_of shard.sessions ≡ configs_at engine number
  pub limit : shard.limit ≡ engine.limit
  pub kept : IsShard shard

-- .. all of them
pub record AreClosedShards (engine : Shards) (shards : List Shard) : Type 0 where
  pub long : length shards ≡ length engine.locks
  pub each : (number : ℕ) (shard : Shard) → slice_get shards number ≡ Some shard → IsClosedShard engine number shard

-- the first parts of configurations that are distributed over so many shards
pub record AreDealt (shards count : ℕ) (configs : List SessionConfig) (parts : List (List SessionConfig)) : Type 0 where
  pub long : length parts ≡ count
  pub each : (shard : ℕ) → shard < count → slice_index_or parts shard [] ≡ share shards shard configs

-- how many of these acts of a caller are calls on the shard
abbrev pub calls_on : ℕ → ℕ → List Act → ℕ
calls_on caller shard acts = length (entries caller shard (calls_of acts))

-- the same of all callers from this number on, each with its acts
abbrev pub all_on : ℕ → ℕ → List (List Act) → ℕ
all_on shard caller [] = 0
all_on shard caller (acts ∷ more) = calls_on caller shard acts + all_on shard (caller + 1) more
