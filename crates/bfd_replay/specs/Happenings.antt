-- The events of a replay, and who reports them when its sessions are distributed over shards.
use Rattle.std.specs.Prelude.{ℕ, ◌≡◌, ◌<◌, ◌+◌, List, [], ◌∷◌, ◌++◌, length, slice_index_or, Option, None, Some}
use Rattle.std.specs.List.{cons_option}
use Rattle.bfd_session.specs.Alone.{Outcome}
use Rattle.bfd_session.specs.Kinds.{Running, configs_of}
use Rattle.bfd_session.specs.Rows.{Ascends}
use Rattle.bfd_shard.specs.declared.entry.ShardEvent.{ShardEvent}
use Rattle.bfd_shard.specs.Dealing.{event_in, share}
use Rattle.bfd_shard.specs.History.{later, moved, outcome_of}
use Rattle.bfd_replay.specs.declared.report.queue.Numbered.{Numbered}
use Rattle.bfd_replay.specs.Pieces.{Piece, whole_piece, event_pieces}

-- an event of no session, with its outcome, or an event of the table's sessions; an own event has its place in the whole
-- table
pub data Happening : Type 0 where
  Apart : Outcome → Happening
  Among : ShardEvent → Happening

-- their outcomes one after another, from these sessions and this last tick on
abbrev pub happening_outcomes : ℕ → List Happening → List Running → List Outcome
happening_outcomes last [] sessions = []
happening_outcomes last (Apart outcome ∷ rest) sessions = outcome ∷ happening_outcomes last rest sessions
happening_outcomes last (Among event ∷ rest) sessions =
    outcome_of last event sessions ∷ happening_outcomes (later last event) rest (moved last event sessions)

-- an event of the sessions, if it is one
abbrev pub session_event : Happening → Option ShardEvent
session_event (Apart outcome) = None
session_event (Among event) = Some event

-- an event as the shard of this number, of so many, has it, if it has it
abbrev pub in_shard : ℕ → ℕ → Happening → Option ShardEvent
in_shard shards shard (Apart outcome) = None
in_shard shards shard (Among event) = event_in shards shard event

-- the event with its number in the replay, if there is one
abbrev pub numbered : ℕ → Option ShardEvent → Option Numbered
numbered number None = None
numbered number (Some event) = Some (record { number = number; event = event })

-- the events of a shard; the first of all these events has this number
abbrev pub queue : ℕ → ℕ → ℕ → List Happening → List Numbered
queue shards shard number [] = []
queue shards shard number (h ∷ rest) = cons_option (numbered number (in_shard shards shard h)) (queue shards shard (number + 1) rest)

-- the queues of so many shards, after one more event was distributed over them
abbrev pub AreQueued : ℕ → ShardEvent → List (List Numbered) → List (List Numbered) → Type 0
AreQueued number event before after = (shard : ℕ) → shard < length before
    → slice_index_or after shard [] ≡ slice_index_or before shard []
    ++ cons_option (numbered number (event_in (length before) shard event)) []

-- what a shard reports of its events, from these sessions of its own and this last tick on
abbrev pub shard_pieces : ℕ → List Numbered → List Running → List Piece
shard_pieces last [] sessions = []
shard_pieces last (e ∷ rest) sessions =
    event_pieces e.number e.event (outcome_of last e.event sessions) ++ shard_pieces (later last e.event) rest (moved last e.event sessions)

-- what one shard with the whole table would report of all these events; the first has this number
abbrev pub whole_pieces : ℕ → ℕ → List Happening → List Running → List Piece
whole_pieces number last [] sessions = []
whole_pieces number last (Apart outcome ∷ rest) sessions = whole_piece number outcome ∷ whole_pieces (number + 1) last rest sessions
whole_pieces number last (Among event ∷ rest) sessions =
    event_pieces number event (outcome_of last event sessions)
    ++ whole_pieces (number + 1) (later last event) rest (moved last event sessions)

-- what is reported of the events of no session; the first of all these events has this number
abbrev pub apart_pieces : ℕ → List Happening → List Piece
apart_pieces number [] = []
apart_pieces number (Apart outcome ∷ rest) = whole_piece number outcome ∷ apart_pieces (number + 1) rest
apart_pieces number (Among event ∷ rest) = apart_pieces (number + 1) rest

-- the parts of a replay of these events on so many shards; the first event has this number. They are what each shard reports,
-- and last what is reported of the events of no session
pub record AreParts (shards number last : ℕ) (events : List Happening) (sessions : List Running) (parts : List (List Piece)) : Type 0 where
  pub some : 0 < shards
  pub long : length parts ≡ shards + 1
  pub each : (shard : ℕ) → shard < shards
      → slice_index_or parts shard [] ≡ shard_pieces last (queue shards shard number events) (share shards shard sessions)
  pub others : slice_index_or parts shards [] ≡ apart_pieces number events
  pub ascends : Ascends (configs_of sessions)
