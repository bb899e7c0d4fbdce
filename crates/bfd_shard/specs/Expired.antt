-- Which sessions a tick expires.
use Rattle.std.specs.Prelude.{ℕ, ◌*◌, ◌&&◌, Bool, List, max, zip, is_some, is_none}
use Rattle.bfd_num.specs.Due.{has_come}
use Rattle.bfd_lanes.specs.Places.{places}
use Rattle.bfd_session.specs.declared.event.SessionConfig.{SessionConfig}
use Rattle.bfd_session.specs.Due.{detects}
use Rattle.bfd_session.specs.Kinds.{Running}
use Rattle.bfd_shard.specs.declared.entry.ShardEvent.{ShardEvent}
use Rattle.bfd_shard.specs.History.{last_tick, runs}

-- the Detection Time of a session has expired by the tick `last` (RFC 5880 section 6.8.4)
abbrev pub has_expired : ℕ → Running → Bool
has_expired last s = has_come (1000 * last) (detects s)

-- the places, ascending, of the sessions that a tick after this history expires: those whose Detection Time has expired by
-- it. A tick below the last tick counts as the last tick
abbrev pub expired : List SessionConfig → List ShardEvent → ℕ → List ℕ
expired configs events t = places (has_expired (max (last_tick events) t)) 0 (runs events configs)

-- a session has forgotten that a packet was heard: it knew so before, and no longer after
abbrev pub forgets : Running × Running → Bool
forgets pair = is_some pair.0.vars.heard && is_none pair.1.vars.heard

-- the places, ascending, of the sessions that have forgotten so, from the sessions before and after
abbrev pub forgotten : List Running → List Running → List ℕ
forgotten before after = places forgets 0 (zip before after)
