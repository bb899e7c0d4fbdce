-- A session's own events, and sessions that are distributed over shards.
use Rattle.std.specs.Prelude.{ℕ, zero, suc, ◌-◌, ◌/◌, ◌%◌, ◌==◌, List, [], ◌∷◌, if◌then◌else◌, Option, None, Some}
use Rattle.std.specs.List.{filter_map}
use Rattle.bfd_shard.specs.declared.entry.ShardEvent.{ShardEvent}
use Rattle.bfd_shard.specs.declared.entry.ShardEvent.TheVariants.{Own, Tick}

-- an event as the session at this place has it when it stands alone: it doesn't have an own event of another place
abbrev pub own_event : ℕ → ShardEvent → Option ShardEvent
own_event place (Own other moment event) = if other == place then Some (Own 0 moment event) else None
own_event place (Tick t) = Some (Tick t)

-- the own events of the session at this place, with the ticks between them
abbrev pub own_events : ℕ → List ShardEvent → List ShardEvent
own_events place events = filter_map (own_event place) events

-- an event of a whole table as the shard of this number has it, of so many shards. The session at place k of the
-- table stands at place k / shards of shard k % shards. A tick is an event of every shard
abbrev pub event_in : ℕ → ℕ → ShardEvent → Option ShardEvent
event_in shards number (Own k moment event) = if k % shards == number then Some (Own (k / shards) moment event) else None
event_in shards number (Tick t) = Some (Tick t)

-- the history of that shard
abbrev pub history_of : ℕ → ℕ → List ShardEvent → List ShardEvent
history_of shards number events = filter_map (event_in shards number) events

-- every n-th element of a list, after the first c are skipped: if c is a shard's number, these are its elements when the list is
-- distributed over n shards, one element after another
unfoldable pub share : {A : Type 0} → ℕ → ℕ → List A → List A
share n c [] = []
share n zero (x ∷ xs) = x ∷ share n (n - 1) xs
share n (suc c) (x ∷ xs) = share n c xs
