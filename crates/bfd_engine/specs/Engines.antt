-- What clauses see of an engine, and of a caller's pass over its shards.
use Rattle.std.specs.Prelude.{ℕ, ◌≡◌, ◌≤◌, ◌<◌, ◌+◌, List, length, slice_get, Option, Some}
use Rattle.bfd_turn.specs.Passes.{TableId, IsNew}
use Rattle.bfd_sbfd.specs.declared.reflecting.Reflector.{Reflector}
use Rattle.bfd_session.specs.declared.event.SessionConfig.{SessionConfig}
use Rattle.bfd_shard.specs.Dealing.{share}
use Rattle.bfd_engine.specs.declared.locked.Base.{Base}
use Rattle.bfd_engine.specs.Turned.{OfShard}

-- an engine: its locks by shard, its sessions' configurations and its reflectors by ascending discriminator, and the limit
-- on the entries of each shard's journal
pub record Shards : Type 0 where
  pub locks : List TableId
  pub configs : List SessionConfig
  pub pool : List Reflector
  pub limit : ℕ

-- the sessions of a shard: the session at place k of the table is that at place k / shards of shard k % shards
abbrev pub configs_at : Shards → ℕ → List SessionConfig
configs_at engine shard = share (length engine.locks) shard engine.configs

-- what no turn changes of a shard
abbrev pub base_at : Shards → ℕ → Base
base_at engine shard = record { configs = configs_at engine shard; limit = engine.limit }

-- an engine of 1 to 64 shards and at most 65,536 sessions, which keeps how many sessions each shard has
pub record IsEngine (engine : Shards) (sizes : List ℕ) : Type 0 where
  pub some : 0 < length engine.locks
  pub few : length engine.locks ≤ 64
  pub small : length engine.configs ≤ 65536
  pub sizes_are : (shard : ℕ) → shard < length engine.locks → slice_get sizes shard ≡ Some (length (configs_at engine shard))

-- what a pass knows of a shard, and its lock there; none while it holds the shard's turn
abbrev pub Held : Type 0
Held = Option (TableId × OfShard)

-- a caller's number, what it knows of each shard, and, of caller 0, how many numbers it has used for passes
abbrev pub Knows : Type 0
Knows = ℕ × List Held × ℕ

-- a shard's pass has the caller's number, and no pass that it made has a number that isn't used yet
pub record IsCallers (number used : ℕ) (known : OfShard) : Type 0 where
  pub number_is : known.number ≡ number
  pub used_up : IsNew (used + 1) known

-- each shard's pass is this caller's
abbrev pub AllOf : ℕ → ℕ → List Held → Type 0
AllOf number used passes = (k : ℕ) (p : TableId × OfShard) → slice_get passes k ≡ Some (Some p) → IsCallers number used p.1

-- passes of this engine: one for each shard, of its lock and its base
pub record IsOf (engine : Shards) (passes : List Held) : Type 0 where
  pub long : length passes ≡ length engine.locks
  pub lock : (k : ℕ) (p : TableId × OfShard) → slice_get passes k ≡ Some (Some p) → slice_get engine.locks k ≡ Some p.0
  pub base_is : (k : ℕ) (p : TableId × OfShard) → slice_get passes k ≡ Some (Some p) → p.1.base ≡ Some (base_at engine k)

-- no turn is held
pub record AllThere (passes : List Held) : Type 0 where
  pub at : (k : ℕ) → k < length passes → (p : TableId × OfShard) × (slice_get passes k ≡ Some (Some p))

-- no pass that was made has this number, or a greater one
abbrev pub AreNew : ℕ → List Held → Type 0
AreNew number passes = (k : ℕ) (p : TableId × OfShard) → slice_get passes k ≡ Some (Some p) → IsNew number p.1

-- .. on a shard
abbrev pub AreNewAt : ℕ → List Held → ℕ → Type 0
AreNewAt number passes k = (p : TableId × OfShard) → slice_get passes k ≡ Some (Some p) → IsNew number p.1
