-- What an engine is opened with, and what its first caller knows.
use Rattle.std.specs.Prelude.{ℕ, ◌≡◌, ◌≤◌, ◌<◌, List, [], length, map, slice_get, slice_index_or, Option, Some}
use Rattle.bfd_session.specs.declared.event.SessionConfig.{SessionConfig}
use Rattle.bfd_demux.specs.declared.row.Row.{Row}
use Rattle.bfd_demux.specs.Rows.{build_fault}
use Rattle.bfd_session.specs.Rows.{AreFit}
use Rattle.bfd_session.specs.Step.{started}
use Rattle.bfd_shard.specs.Dealing.{share}
use Rattle.bfd_shard.specs.Shard.{Shard}
use Rattle.bfd_turn.specs.Passes.{TableId, opened_pass}
use Rattle.bfd_engine.specs.declared.locked.Base.{Base}
use Rattle.bfd_engine.specs.declared.fault.OpenFault.{OpenFault}
use Rattle.bfd_engine.specs.declared.fault.OpenFault.TheVariants.{Build, Memory}
use Rattle.bfd_engine.specs.Turned.{OfShard}
use Rattle.bfd_engine.specs.Engines.{Shards, Held, Knows, IsOf, AllThere}
use Rattle.bfd_engine.specs.Calls.{seen_at, met_word, taken_at, made_at, kept_at}

-- the pass of a newly opened engine: caller 0, of all shards, which has seen nothing, made no pass and given back no turn
pub record IsNewPass (engine : Shards) (pass : Knows) : Type 0 where
  pub of : IsOf engine pass.1
  pub there : AllThere pass.1
  pub number : pass.0 ≡ 0
  pub used : pass.2 ≡ 0
  pub seen : (shard : ℕ) → shard < length engine.locks → seen_at pass shard ≡ []
  pub word : (shard : ℕ) → shard < length engine.locks → met_word pass shard ≡ 0
  pub taken : (shard : ℕ) → shard < length engine.locks → taken_at pass shard ≡ 0
  pub made : (shard : ℕ) → shard < length engine.locks → made_at pass shard ≡ []
  pub kept : (shard : ℕ) → shard < length engine.locks → kept_at pass shard ≡ []

-- why no engine is opened: what is wrong with the rows, or out of memory
abbrev pub IsOpenFault : List Row → OpenFault → Type 0
IsOpenFault rows (Build fault) = build_fault rows ≡ Some fault
IsOpenFault rows Memory = Unit {0}

-- what no turn changes of a shard that is opened with these sessions
abbrev pub opened_base : ℕ → List SessionConfig → Base
opened_base limit configs = record { configs = configs; limit = limit }

-- a new lock of a shard of these sessions, and the pass of its caller 0
abbrev pub IsNewShard : ℕ → List SessionConfig → TableId → TableId × OfShard → Type 0
IsNewShard limit configs lock pass = pass ≡ (lock, opened_pass (opened_base limit configs) 0)

-- sessions of which a shard may be built
pub record MayOpen (configs : List SessionConfig) : Type 0 where
  pub few : length configs ≤ 65536
  pub fit : AreFit configs

-- a new shard of these sessions: all are at the start, and the journal accepts no entry
pub record IsNewState (configs : List SessionConfig) (state : Shard) : Type 0 where
  pub sessions : state.sessions ≡ map started configs
  pub journal : state.journal ≡ []
  pub limit : state.limit ≡ 0

-- new shards, one for each share of the sessions: all sessions are at the start, and no journal accepts an entry
pub record AreNewStates (n : ℕ) (configs : List SessionConfig) (states : List Shard) : Type 0 where
  pub long : length states ≡ n
  pub each : (r : ℕ) (d : Shard) → r < n → IsNewState (share n r configs) (slice_index_or states r d)

-- a shard that has seen nothing, whose journal accepts no more entries than this
abbrev pub MayLock : ℕ → Shard → Type 0
MayLock limit state = (state.journal ≡ []) × (state.limit ≤ limit)

-- one shard for each part: its lock, the pass of its caller 0, and how many sessions it has
pub record IsOpenedShard (limit : ℕ) (configs : List SessionConfig) (lock : Option TableId) (pass : Option Held) (size : Option ℕ) : Type 0
  where
    pub id : TableId
    pub lock_is : lock ≡ Some id
    pub pass_is : pass ≡ Some (Some (id, opened_pass (opened_base limit configs) 0))
    pub size_is : size ≡ Some (length configs)

pub record AreOpened (limit : ℕ) (parts : List (List SessionConfig)) (locks : List TableId) (passes : List Held)
    (sizes : List ℕ) : Type 0 where
  pub locks_long : length locks ≡ length parts
  pub passes_long : length passes ≡ length parts
  pub sizes_long : length sizes ≡ length parts
  pub each : (k : ℕ) (configs : List SessionConfig) → slice_get parts k ≡ Some configs
      → IsOpenedShard limit configs (slice_get locks k) (slice_get passes k) (slice_get sizes k)

-- a shard that was built from these sessions: its lock, the pass of its caller 0, and how many sessions there are
abbrev pub IsMade : ℕ → List SessionConfig → TableId × (TableId × OfShard) × ℕ → Type 0
IsMade limit configs made = IsNewShard limit configs made.0 made.1 × (made.2 ≡ length configs)

-- the parts are the shares of so many shards
pub record AreShares (n : ℕ) (configs : List SessionConfig) (parts : List (List SessionConfig)) : Type 0 where
  pub long : length parts ≡ n
  pub each : (r : ℕ) → r < n → slice_get parts r ≡ Some (share n r configs)

-- one shard for each share
pub record HaveOpened (limit : ℕ) (configs : List SessionConfig) (locks : List TableId) (passes : List Held) (sizes : List ℕ) : Type 0 where
  pub parts : List (List SessionConfig)
  pub shares : AreShares (length locks) configs parts
  pub opened : AreOpened limit parts locks passes sizes
