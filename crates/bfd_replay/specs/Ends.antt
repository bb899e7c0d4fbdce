-- What the workers leave when the engine is closed.
use Rattle.std.specs.Prelude.{ℕ, ◌≡◌, ◌<◌, ◌+◌, ◌%◌, List, [], length, map, slice_get, slice_index_or, Some, Result, Ok, Err}
use Rattle.bfd_session.specs.Kinds.{configs_of}
use Rattle.bfd_session.specs.Step.{started}
use Rattle.bfd_shard.specs.Shard.{Shard}
use Rattle.bfd_engine.specs.declared.fault.EngineFault.{EngineFault}
use Rattle.bfd_engine.specs.declared.fault.EngineFault.TheVariants.{Memory, Full, Spent}
use Rattle.bfd_engine.specs.Engines.{Shards, configs_at}
use Rattle.bfd_replay.specs.declared.report.queue.Numbered.{Numbered}
use Rattle.bfd_replay.specs.Pieces.{Piece}
use Rattle.bfd_replay.specs.Happenings.{shard_pieces}
use Rattle.bfd_replay.specs.Working.{entries_by, events_in, HasUsedAt}
use Rattle.bfd_replay.specs.Jobs.{AreOwn, HasEnded, Work, own_queue}
use Rattle.bfd_engine.specs.Engines.{IsOf, AllThere}

-- the job of the worker at this place, done
pub record IsDoneJob (engine : Shards) (queues : List (List Numbered)) (workers at : ℕ) (w : Work) : Type 0 where
  pub of : IsOf engine w.pass.1
  pub there : AllThere w.pass.1
  pub number : w.pass.0 ≡ at + 1
  pub used : (shard : ℕ) → shard < length engine.locks
      → HasUsedAt w.pass shard (own_queue workers at shard (slice_index_or queues shard []))
  pub mine : List (List Numbered)
  pub own : AreOwn workers at queues mine
  pub ended : HasEnded engine mine w.pass w.reported

-- it ended with a part of each shard, or it ran out of memory
abbrev pub IsFine : Result (List (List Piece)) EngineFault → Type 0
IsFine (Ok parts) = Unit {0}
IsFine (Err Memory) = Unit {0}
IsFine (Err (Full at n)) = ⊥
IsFine (Err (Spent at word)) = ⊥

-- what the worker at this place of so many reported of each shard that it handles, if it ended with parts: its queue's events
abbrev pub HasReportedShards : Shards → List (List Numbered) → ℕ → ℕ → Result (List (List Piece)) EngineFault → Type 0
HasReportedShards engine queues workers at (Err fault) = Unit {0}
HasReportedShards engine queues workers at (Ok parts) = (length parts ≡ length engine.locks)
    × ((shard : ℕ) → shard < length engine.locks → shard % workers ≡ at
    → slice_index_or parts shard [] ≡ shard_pieces 0 (slice_index_or queues shard []) (map started (configs_at engine shard)))

-- the workers' parts: shard by shard its queue's events, reported by its worker
pub record AreReported (engine : Shards) (queues : List (List Numbered)) (workers : ℕ) (all : List (List (List Piece))) : Type 0 where
  pub long : length all ≡ workers
  pub wide : (at : ℕ) → at < workers → length (slice_index_or all at []) ≡ length engine.locks
  pub each : (shard : ℕ) → shard < length engine.locks
      → slice_index_or (slice_index_or all (shard % workers) []) shard []
      ≡ shard_pieces 0 (slice_index_or queues shard []) (map started (configs_at engine shard))

-- a closed shard: it is built from its configurations, and its journal has only the queue's events, all brought by its worker
pub record IsState (engine : Shards) (queues : List (List Numbered)) (workers number : ℕ) (shard : Shard) : Type 0 where
  pub configs : configs_of shard.sessions ≡ configs_at engine number
  pub journal : shard.journal ≡ entries_by (number % workers + 1) (events_in (slice_index_or queues number []))

pub record AreStates (engine : Shards) (queues : List (List Numbered)) (workers : ℕ) (shards : List Shard) : Type 0 where
  pub long : length shards ≡ length engine.locks
  pub each : (number : ℕ) (shard : Shard) → slice_get shards number ≡ Some shard → IsState engine queues workers number shard
