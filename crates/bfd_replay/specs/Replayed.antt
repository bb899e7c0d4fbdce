-- The state in which a replay leaves each shard, and its report.
use Rattle.std.specs.Prelude.{ℕ, ◌≡◌, ◌+◌, ◌%◌, ◌==◌, Bool, true, false, List, length, slice_get, Some}
use Rattle.bfd_session.specs.Kinds.{configs_of}
use Rattle.bfd_shard.specs.Dealing.{history_of, share}
use Rattle.bfd_shard.specs.Shard.{Shard}
use Rattle.bfd_script.specs.Reading.{Lists}
use Rattle.bfd_instance.specs.World.{totals}
use Rattle.bfd_replay.specs.declared.report.counts.Counts.{Counts}
use Rattle.bfd_replay.specs.Planned.{events_of_table}
use Rattle.bfd_replay.specs.Working.{entries_by}

-- the state of this shard: it was built from its share of the sessions. Its journal is the own events of its sessions and every
-- tick, in the order of the script. The caller that handles the shard brought them all
pub record HasReplayed (script : Lists) (shards : ℕ) (by : ℕ → ℕ) (number : ℕ) (state : Shard) : Type 0 where
  pub configs : configs_of state.sessions ≡ share shards number script.configs
  pub journal : state.journal ≡ entries_by (by number) (history_of shards number (events_of_table script))

pub record HaveReplayed (script : Lists) (shards : ℕ) (by : ℕ → ℕ) (states : List Shard) : Type 0 where
  pub long : length states ≡ shards
  pub each : (number : ℕ) (state : Shard) → slice_get states number ≡ Some state → HasReplayed script shards by number state

-- these are the script's counts, and how many of its sessions are Up at the end
abbrev pub HasTotals : Lists → Counts → ℕ → Type 0
HasTotals script counts up = totals script ≡ record { events = counts.events; txs = counts.txs; drops = counts.drops; ups = up }

-- of so many workers the one that handles the shard of this number, counted from 1
abbrev pub worker_of : ℕ → ℕ → ℕ
worker_of workers number = 1 + number % workers

-- the caller that handles it: a single worker is the caller that opened the engine
abbrev pub taker : Bool → ℕ → ℕ → ℕ
taker true workers number = 0
taker false workers number = worker_of workers number

abbrev pub taker_of : ℕ → ℕ → ℕ
taker_of workers = taker (workers == 1) workers
