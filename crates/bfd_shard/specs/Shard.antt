-- What a shard keeps between events.
use Rattle.std.specs.Prelude.{ℕ, ◌≡◌, ◌≤◌, ◌*◌, ◌++◌, false, List, [], ◌∷◌, length}
use Rattle.std.specs.List.{AllByRecursion}
use Rattle.bfd_num.specs.Numbers.{greatest_tick}
use Rattle.bfd_num.specs.Due.{has_come}
use Rattle.bfd_session.specs.declared.event.SessionConfig.{SessionConfig}
use Rattle.bfd_session.specs.Due.{due}
use Rattle.bfd_session.specs.Kinds.{Running, configs_of}
use Rattle.bfd_session.specs.Reaching.{IsTaken}
use Rattle.bfd_session.specs.Step.{IsSound}
use Rattle.bfd_shard.specs.declared.entry.ShardEvent.{ShardEvent}
use Rattle.bfd_shard.specs.declared.entry.ShardEvent.TheVariants.{Own, Tick}
use Rattle.bfd_shard.specs.declared.entry.Entry.{Entry}
use Rattle.bfd_shard.specs.Expired.{expired, forgotten}
use Rattle.bfd_shard.specs.History.{events_of, last_tick, runs}

-- a shard, as its callers see it; room is how many more entries the journal has memory for
pub record Shard : Type 0 where
  pub sessions : List Running
  pub last : ℕ
  pub journal : List Entry
  pub limit : ℕ
  pub room : ℕ

abbrev pub shard_of : List Running → ℕ → List Entry → ℕ → ℕ → Shard
shard_of sessions last journal limit room = record { sessions = sessions; last = last; journal = journal; limit = limit; room = room }

-- an event that a shard of these sessions may be given; a tick always may
abbrev pub CanHappen : List SessionConfig → ShardEvent → Type 0
CanHappen configs (Own place moment event) = IsTaken configs place event
CanHappen configs (Tick t) = Unit {0}

-- a history of a shard of these sessions
abbrev pub IsHistory : List SessionConfig → List ShardEvent → Type 0
IsHistory configs events = AllByRecursion (CanHappen configs) events

-- nothing is left that is due by this tick
abbrev pub NoneDue : ℕ → List Running → Type 0
NoneDue last sessions = AllByRecursion (λ s. has_come last (due s) ≡ false) sessions

-- at every tick of a history, exactly the sessions whose Detection Time had expired by it forgot that a packet was heard (RFC 5880
-- section 6.8.4). Nothing was left that was due by the last tick
pub record IsOnTime (configs : List SessionConfig) (events : List ShardEvent) : Type 0 where
  pub exact : (before after : List ShardEvent) (t : ℕ) → events ≡ before ++ Tick t ∷ after
      → forgotten (runs before configs) (runs (before ++ Tick t ∷ []) configs) ≡ expired configs before t
  pub none_due : (before after : List ShardEvent) (t : ℕ) → events ≡ before ++ Tick t ∷ after
      → NoneDue (last_tick (before ++ Tick t ∷ [])) (runs (before ++ Tick t ∷ []) configs)

-- a shard between events: its journal is within its limit, and holds its history. Its last tick is that of the history. Each
-- session is as its own events and the ticks in the history leave it, with sound variables. Every tick was on time
pub record IsShard (shard : Shard) : Type 0 where
  pub few : length shard.sessions ≤ 65536
  pub full : length shard.journal ≤ shard.limit
  pub history : IsHistory (configs_of shard.sessions) (events_of shard.journal)
  pub clock : shard.last ≡ last_tick (events_of shard.journal)
  pub early : shard.last ≤ greatest_tick
  pub whole : shard.sessions ≡ runs (events_of shard.journal) (configs_of shard.sessions)
  pub sound : AllByRecursion IsSound shard.sessions
  pub timely : IsOnTime (configs_of shard.sessions) (events_of shard.journal)

-- how many outputs an event may give: five for an own event, and five for each session at a tick
abbrev pub room_for : List Running → ShardEvent → ℕ
room_for sessions (Own place moment event) = 5
room_for sessions (Tick t) = 5 * length sessions

-- an own event of a session
abbrev pub IsOwn : ShardEvent → Type 0
IsOwn (Own place moment event) = Unit {0}
IsOwn (Tick t) = ⊥

-- after a tick nothing is left that is due by the last tick; of an own event this says nothing
abbrev pub IsOver : ℕ → ShardEvent → List Running → Type 0
IsOver last (Own place moment event) sessions = Unit {0}
IsOver last (Tick t) sessions = NoneDue last sessions

-- at a tick of a shard, exactly the expired sessions forget that a packet was heard; of an own event this says nothing
abbrev pub IsExact : Shard → ShardEvent → List Running → Type 0
IsExact shard (Own place moment event) after = Unit {0}
IsExact shard (Tick t) after = forgotten shard.sessions after ≡ expired (configs_of shard.sessions) (events_of shard.journal) t
