-- Sessions with their timers, without a journal of their events.
use Rattle.std.specs.Prelude.{ℕ, ◌≡◌, ◌≤◌, List, length, map, max, Option}
use Rattle.std.specs.List.{AllByRecursion}
use Rattle.bfd_num.specs.Numbers.{greatest_tick}
use Rattle.bfd_lanes.specs.Held.{HeldIds, room_of}
use Rattle.bfd_lanes.specs.Places.{places}
use Rattle.bfd_session.specs.Due.{due}
use Rattle.bfd_session.specs.Kinds.{Running}
use Rattle.bfd_session.specs.Step.{IsSound}
use Rattle.bfd_shard.specs.declared.entry.ShardEvent.{ShardEvent}
use Rattle.bfd_shard.specs.declared.entry.ShardEvent.TheVariants.{Own, Tick}
use Rattle.bfd_shard.specs.Expired.{forgotten, has_expired}

-- sessions by place, and the last tick
pub record Timed : Type 0 where
  pub sessions : List Running
  pub last : ℕ

-- sessions between events: each is sound, the timers are their due ticks, and the ids have room for all of them
pub record IsTimed (sessions : List Running) (last : ℕ) (dues : List (Option ℕ)) (ids : HeldIds) : Type 0 where
  pub few : length sessions ≤ 65536
  pub early : last ≤ greatest_tick
  pub sound : AllByRecursion IsSound sessions
  pub timed : dues ≡ map due sessions
  pub ids_fit : length sessions ≤ room_of ids

-- at a tick, exactly the sessions whose Detection Time has expired by it forget that a packet was heard (RFC 5880 section 6.8.4);
-- of an own event this says nothing
abbrev pub HasForgotten : ℕ → ShardEvent → List Running → List Running → Type 0
HasForgotten last (Own place moment event) before after = Unit {0}
HasForgotten last (Tick t) before after = forgotten before after ≡ places (has_expired (max last t)) 0 before
