-- What each entry of the closed shards did.
use Rattle.std.specs.Prelude.{ℕ, ◌≡◌, ◌++◌, List, [], ◌∷◌}
use Rattle.bfd_packet.specs.declared.arrival.Arrival.{Arrival}
use Rattle.bfd_session.specs.declared.event.Answer.{Answer}
use Rattle.bfd_session.specs.declared.event.Event.{Event}
use Rattle.bfd_session.specs.declared.event.Event.TheVariants.{Packet, Returned}
use Rattle.bfd_session.specs.Kinds.{Running}
use Rattle.bfd_shard.specs.declared.entry.Entry.{Entry}
use Rattle.bfd_shard.specs.declared.entry.ShardEvent.TheVariants.{Own, Tick}
use Rattle.bfd_engine.specs.Turned.{entry_of, given_after, HasExpired}
use Rattle.bfd_engine.specs.Engines.{Shards, configs_at}
use Rattle.bfd_engine.specs.Judging.{IsAnswered, packet_answer, return_answer}

-- at each tick in the shards' histories, exactly the sessions that it expires forgot that a packet was heard (RFC 5880 section
-- 6.8.4). Nothing was left that was due by the last tick
abbrev pub AreTimely : Shards → (ℕ → List Entry) → Type 0
AreTimely engine histories =
    (shard caller t : ℕ) (before after : List Entry) → histories shard ≡ before ++ entry_of caller (Tick t) ∷ after
    → HasExpired (configs_at engine shard) caller t (before ++ entry_of caller (Tick t) ∷ [])

-- an own event after these entries had the answer that is expected of its session, as they left it
abbrev pub HasAnswer : (ℕ → Running → Answer) → Shards → ℕ → ℕ → ℕ → ℕ → Event → List Entry → Type 0
HasAnswer expected engine shard caller place moment event before =
    IsAnswered expected engine shard place moment event caller (before ++ entry_of caller (Own place moment event) ∷ [])
    (given_after (configs_at engine shard) before (Own place moment event)).answer

-- each packet in the shards' histories was discarded by the first of all tests that it failed, and handled if it failed none
-- (RFC 5880 section 6.8.6). Each echo packet that came back was handled if its number was awaited (section 6.8.8)
pub record AreJudged (engine : Shards) (histories : ℕ → List Entry) : Type 0 where
  pub packets : (shard caller place moment : ℕ) (arrival : Arrival) (before after : List Entry)
      → histories shard ≡ before ++ entry_of caller (Own place moment (Packet arrival)) ∷ after
      → HasAnswer (packet_answer engine arrival) engine shard caller place moment (Packet arrival) before
  pub returns : (shard caller place moment sequence : ℕ) (before after : List Entry)
      → histories shard ≡ before ++ entry_of caller (Own place moment (Returned sequence)) ∷ after
      → HasAnswer (return_answer sequence) engine shard caller place moment (Returned sequence) before
