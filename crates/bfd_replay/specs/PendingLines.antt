-- What was reported so far of a replay's events.
use Rattle.std.specs.Prelude.{◌≡◌, ◌+◌, ◌++◌, ◌∷◌, ℕ, List, length, map, slice_get, sum_by, Option, Some, Result, Err}
use Rattle.std.specs.List.{filter_map}
use Rattle.bfd_edge.specs.declared.fault.Fault.{Fault}
use Rattle.bfd_edge.specs.declared.fault.Fault.TheVariants as sink
use Rattle.bfd_edge.specs.Faults.{HasCause}
use Rattle.bfd_engine.specs.declared.fault.EngineFault.TheVariants.{Memory, Full, Spent}
use Rattle.bfd_engine.specs.Engines.{Shards, Knows, configs_at}
use Rattle.bfd_shard.specs.declared.entry.ShardEvent.{ShardEvent}
use Rattle.bfd_shard.specs.Dealing.{history_of}
use Rattle.bfd_shard.specs.History.{last_tick, runs}
use Rattle.bfd_session.specs.Alone.{Outcome}
use Rattle.bfd_session.specs.Kinds.{configs_of}
use Rattle.bfd_session.specs.Step.{started}
use Rattle.bfd_shard.specs.Shard.{Shard}
use Rattle.bfd_script.specs.Report.{lines_from, packets_sent, dropped}
use Rattle.bfd_replay.specs.declared.stream.pending.Stop.{Stop}
use Rattle.bfd_replay.specs.declared.stream.pending.Stop.TheVariants.{Refused, Unwritten}
use Rattle.bfd_replay.specs.Happenings.{Happening, happening_outcomes, session_event}
use Rattle.bfd_replay.specs.Turning.{AllSole, IsCutShort, IsRefusal, HasSeen, outcome_in}
use Rattle.bfd_replay.specs.Working.{entries_by}
use Rattle.bfd_replay.specs.Written.{TookFront, TookUpTo}

-- the text that no sink has accepted yet, how many events were reported, and how many packets were sent and dropped in them
pub record PendingLines : Type 0 where
  pub text : List ℕ
  pub events : ℕ
  pub txs : ℕ
  pub drops : ℕ

-- of the events with these outcomes, all were reported except those with the rest. A sink accepted a prefix of their lines, and the
-- remaining text is kept. Their packets were counted
pub record ReportedUpTo (old new : Option (List ℕ)) (before after : PendingLines) (outcomes rest : List Outcome) : Type 0 where
  pub lines : TookUpTo old new (before.text ++ lines_from (before.events + 1) outcomes) (after.text ++ lines_from (after.events + 1) rest)
  pub events : after.events + length rest ≡ before.events + length outcomes
  pub txs : after.txs + sum_by packets_sent rest ≡ before.txs + sum_by packets_sent outcomes
  pub drops : after.drops + sum_by dropped rest ≡ before.drops + sum_by dropped outcomes

-- the count of a sink's faults before and after: only a write raises it
abbrev pub HasStopCause : ℕ → ℕ → Stop → Type 0
HasStopCause before now (Refused fault) = now ≡ before
HasStopCause before now (Unwritten fault) = (let written : Result (Unit {0}) Fault = Err fault in HasCause before now written)

-- why one event's lines weren't reported
abbrev pub IsEventStop : Shards → Knows → Knows → Stop → Type 0
IsEventStop engine k l (Refused fault) = IsRefusal fault engine k l
IsEventStop engine k l (Unwritten fault) = Unit {0}

-- why the lines of some events weren't reported
abbrev pub IsStop : Shards → Knows → Stop → Type 0
IsStop engine l (Refused fault) = IsCutShort fault engine l
IsStop engine l (Unwritten fault) = Unit {0}

-- if caller 0 is the engine's only one, the event's lines were reported
abbrev pub HasReportedEvent : Shards → Happening → Knows → Knows → Option (List ℕ) → Option (List ℕ) → PendingLines → PendingLines → Type 0
HasReportedEvent engine h k l old new before after = AllSole (length engine.locks) l → (past : List ShardEvent) → HasSeen engine past k
    → (rest : List Outcome)
    → ReportedUpTo old new before after (outcome_in (last_tick past) h (runs past engine.configs) ∷ rest) rest

-- .. or a sink accepted a prefix of the text with them
abbrev pub HasReportedFront : Shards → Happening → Knows → Knows → Option (List ℕ) → Option (List ℕ) → PendingLines → Type 0
HasReportedFront engine h k l old new before = AllSole (length engine.locks) l → (past : List ShardEvent) → HasSeen engine past k
    → (rest : List Outcome)
    → TookFront old new (before.text ++ lines_from (before.events + 1) (outcome_in (last_tick past) h (runs past engine.configs) ∷ rest))

-- the outcomes of events on a new engine
abbrev pub outcomes_on : Shards → List Happening → List Outcome
outcomes_on engine hs = happening_outcomes 0 hs (map started engine.configs)

-- the shards' entries are those of the events, if all are caller 0's
abbrev pub HasBrought : Shards → List Happening → Knows → Type 0
HasBrought engine hs l = AllSole (length engine.locks) l → HasSeen engine (filter_map session_event hs) l

-- the closed shards: each one's journal has its own of these events, brought by caller 0
pub record IsClosedAfter (engine : Shards) (hs : List Happening) (states : List Shard) : Type 0 where
  pub long : length states ≡ length engine.locks
  pub each : (number : ℕ) (state : Shard) → slice_get states number ≡ Some state → (configs_of state.sessions ≡ configs_at engine number)
      × (state.journal ≡ entries_by 0 (history_of (length engine.locks) number (filter_map session_event hs)))

-- a shard refuses the only caller an event only when out of memory
abbrev pub IsMeant : Stop → Type 0
IsMeant (Refused Memory) = Unit {0}
IsMeant (Refused (Full at n)) = ⊥
IsMeant (Refused (Spent at word)) = ⊥
IsMeant (Unwritten fault) = Unit {0}

abbrev pub reason_of : Stop → Fault
reason_of (Refused fault) = sink.Memory
reason_of (Unwritten fault) = fault
