-- The sessions of a shard after its events. A history is the list of a shard's events, in the order in which they came:
-- own events of the sessions, each with its place, and ticks of the clock, which are events of every session.
use Rattle.std.specs.Prelude.{ℕ, ◌==◌, ◌+◌, List, [], ◌∷◌, if◌then◌else◌, max, map, slice_get, slice_set, Option, None, Some}
use Rattle.std.specs.List.{flat_map}
use Rattle.bfd_session.specs.declared.event.SessionConfig.{SessionConfig}
use Rattle.bfd_session.specs.declared.event.Event.{Event}
use Rattle.bfd_session.specs.declared.event.Answer.TheVariants.{Handled, Ticked}
use Rattle.bfd_session.specs.Kinds.{Running}
use Rattle.bfd_session.specs.Step.{started}
use Rattle.bfd_session.specs.Alone.{Outcome, stepped, step_outcome, ticked, tick_items}
use Rattle.bfd_shard.specs.declared.entry.ShardEvent.{ShardEvent}
use Rattle.bfd_shard.specs.declared.entry.ShardEvent.TheVariants.{Own, Tick}
use Rattle.bfd_shard.specs.declared.entry.Entry.{Entry}

-- the history that a journal holds: its events, without their callers
abbrev pub events_of : List Entry → List ShardEvent
events_of journal = map (λ entry. entry.event) journal

-- the last tick after an event, if `last` was the last tick before: it never falls
abbrev pub later : ℕ → ShardEvent → ℕ
later last (Own place moment event) = last
later last (Tick t) = max last t

-- the last tick after a history that begins with this last tick
unfoldable pub last_from : ℕ → List ShardEvent → ℕ
last_from last [] = last
last_from last (event ∷ events) = last_from (later last event) events

-- the last tick: the greatest one in the history, or 0
abbrev pub last_tick : List ShardEvent → ℕ
last_tick events = last_from 0 events

-- the session at this place after an event, if `last` was the last tick before. An own event of another place does
-- nothing to it, and a tick below the last tick counts as the last tick
abbrev pub after : ℕ → ℕ → ShardEvent → Running → Running
after place last (Own other moment event) s = if other == place then stepped moment last event s else s
after place last (Tick t) s = ticked (max last t) s

-- the session at this place after events that begin with this last tick
unfoldable pub run_from : ℕ → ℕ → List ShardEvent → Running → Running
run_from place last [] s = s
run_from place last (event ∷ events) s = run_from place (later last event) events (after place last event s)

-- the run of a session over a history: a session of this configuration that stands at this place from the start, after its
-- own events and the ticks
abbrev pub run : ℕ → List ShardEvent → SessionConfig → Running
run place events config = run_from place 0 events (started config)

-- the runs of the sessions of these configurations, of which the first stands at this place
unfoldable pub runs_from : ℕ → List ShardEvent → List SessionConfig → List Running
runs_from place events [] = []
runs_from place events (config ∷ configs) = run place events config ∷ runs_from (place + 1) events configs

-- all sessions of a shard after its history
abbrev pub runs : List ShardEvent → List SessionConfig → List Running
runs events configs = runs_from 0 events configs

-- an own event of the session at its place, and of no other
abbrev pub own_moved : Option Running → ℕ → ℕ → ℕ → Event → List Running → List Running
own_moved None place moment last event sessions = sessions
own_moved (Some s) place moment last event sessions = slice_set sessions place (stepped moment last event s)

abbrev pub own_outcome : Option Running → ℕ → ℕ → Event → Outcome
own_outcome None moment last event = record { items = []; answer = Handled }
own_outcome (Some s) moment last event = step_outcome moment last event s

-- all sessions of a shard after one event, if `last` was the last tick before
unfoldable pub moved : ℕ → ShardEvent → List Running → List Running
moved last (Own place moment event) sessions = own_moved (slice_get sessions place) place moment last event sessions
moved last (Tick t) sessions = map (ticked (max last t)) sessions

-- the outcome of the event: of an own event its session's outcome, of a tick the outputs of all sessions, by ascending place
unfoldable pub outcome_of : ℕ → ShardEvent → List Running → Outcome
outcome_of last (Own place moment event) sessions = own_outcome (slice_get sessions place) moment last event
outcome_of last (Tick t) sessions = record { items = flat_map (tick_items (max last t)) sessions; answer = Ticked }
