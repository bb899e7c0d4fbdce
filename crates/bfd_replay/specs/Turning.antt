-- What caller 0 has seen of an engine's shards if it is the only one, and the outcomes of its events.
use Rattle.std.specs.Prelude.{ℕ, ◌≡◌, ◌≤◌, ◌<◌, ◌+◌, ◌++◌, List, [], length, slice_index_or}
use Rattle.std.specs.List.{cons_option}
use Rattle.bfd_sbfd.specs.declared.reflecting.Reflector.{Reflector}
use Rattle.bfd_session.specs.Alone.{Outcome}
use Rattle.bfd_session.specs.Kinds.{Running}
use Rattle.bfd_session.specs.declared.event.SessionConfig.{SessionConfig}
use Rattle.bfd_shard.specs.declared.entry.ShardEvent.{ShardEvent}
use Rattle.bfd_shard.specs.declared.entry.ShardEvent.TheVariants.{Own, Tick}
use Rattle.bfd_shard.specs.Dealing.{history_of}
use Rattle.bfd_shard.specs.History.{last_tick, outcome_of, runs}
use Rattle.bfd_turn.specs.Lists.{Begins}
use Rattle.bfd_turn.specs.Passes.{last_word}
use Rattle.bfd_engine.specs.declared.fault.EngineFault.{EngineFault}
use Rattle.bfd_engine.specs.declared.fault.EngineFault.TheVariants.{Memory, Full, Spent}
use Rattle.bfd_engine.specs.Turned.{given_after}
use Rattle.bfd_engine.specs.Engines.{Shards, Knows, configs_at}
use Rattle.bfd_engine.specs.Calls.{seen_at, met_word, taken_at, made_at}
use Rattle.bfd_replay.specs.Happenings.{Happening, Apart, Among, in_shard}
use Rattle.bfd_replay.specs.Pieces.{Piece, event_pieces}
use Rattle.bfd_replay.specs.Working.{IsSole, entries_by}

-- all entries that caller 0 has seen are its own
abbrev pub AllSole : ℕ → Knows → Type 0
AllSole n k = (r : ℕ) → r < n → IsSole 0 (seen_at k r)

-- on a shard k became l: it has seen what it had, and perhaps more after it. If all entries there are caller 0's, so were those
-- before, and the entries of these events were added
pub record Went (k l : Knows) (new : List ShardEvent) (r : ℕ) : Type 0 where
  pub begins : Begins (seen_at k r) (seen_at l r)
  pub sole : IsSole 0 (seen_at l r) → IsSole 0 (seen_at k r)
  pub seen : IsSole 0 (seen_at l r) → seen_at l r ≡ seen_at k r ++ entries_by 0 new

-- caller 0's pass k became l, with at most so many turns of each shard
pub record HasKept (times : ℕ) (k l : Knows) : Type 0 where
  pub number : l.0 ≡ k.0
  pub made : (r : ℕ) → made_at l r ≡ made_at k r
  pub taken : (r : ℕ) → taken_at l r ≤ taken_at k r + times
  pub begins : (r : ℕ) → Begins (seen_at k r) (seen_at l r)

-- an event as the shard of this number has it, if it has it
abbrev pub brought : ℕ → Happening → ℕ → List ShardEvent
brought n h r = cons_option (in_shard n r h) []

-- why an event couldn't be carried out: out of memory; a shard's journal is at its limit, and this caller added nothing to it; or
-- a lock's last word was met
abbrev pub IsRefusal : EngineFault → Shards → Knows → Knows → Type 0
IsRefusal Memory engine k l = Unit {0}
IsRefusal (Full at n) engine k l = (at < length engine.locks) × (length (seen_at l at) ≡ engine.limit) × Went k l [] at
IsRefusal (Spent at word) engine k l = (at < length engine.locks) × (met_word l at ≡ last_word)

-- why a run of events was cut short: out of memory, if caller 0 is the only one and no lock's last word was met
abbrev pub IsCutShort : EngineFault → Shards → Knows → Type 0
IsCutShort Memory engine l = Unit {0}
IsCutShort (Full at n) engine l = AllSole (length engine.locks) l → ⊥
IsCutShort (Spent at word) engine l = (r : ℕ) × (r < length engine.locks) × (met_word l r ≡ last_word)

-- an engine of these sessions and reflectors, on so many shards, whose journals accept so many entries
pub record IsOpenedFor (engine : Shards) (configs : List SessionConfig) (pool : List Reflector) (shards limit : ℕ) : Type 0 where
  pub shards_are : length engine.locks ≡ shards
  pub configs_are : engine.configs ≡ configs
  pub pool_is : engine.pool ≡ pool
  pub limit_is : engine.limit ≡ limit

-- of each shard it has seen the shard's own of these events, and no other
abbrev pub HasSeen : Shards → List ShardEvent → Knows → Type 0
HasSeen engine past k = (r : ℕ) → r < length engine.locks → seen_at k r ≡ entries_by 0 (history_of (length engine.locks) r past)

-- the outcome of an event: its own if no session has it, else that of these sessions at this last tick
abbrev pub outcome_in : ℕ → Happening → List Running → Outcome
outcome_in last (Apart outcome) sessions = outcome
outcome_in last (Among event) sessions = outcome_of last event sessions

-- an event that at most one of so many shards has
abbrev pub IsOfOne : ℕ → Happening → Type 0
IsOfOne n (Apart outcome) = Unit {0}
IsOfOne n (Among (Own place moment event)) = Unit {0}
IsOfOne n (Among (Tick t)) = n ≡ 1

-- such an event had this outcome, if caller 0 is the only one
abbrev pub Gave : Shards → Knows → Knows → Happening → Outcome → Type 0
Gave engine k l h outcome = IsOfOne (length engine.locks) h → AllSole (length engine.locks) l → (past : List ShardEvent)
    → HasSeen engine past k
    → outcome ≡ outcome_in (last_tick past) h (runs past engine.configs)

-- what the shards before a place report of a tick of this number, each if caller 0 is its only one
abbrev pub HaveReportedTick : Shards → ℕ → ℕ → ℕ → Knows → Knows → List (List Piece) → Type 0
HaveReportedTick engine number t at k l parts = (r : ℕ) → r < at → IsSole 0 (seen_at l r)
    → slice_index_or parts r [] ≡ event_pieces number (Tick t) (given_after (configs_at engine r) (seen_at k r) (Tick t))
