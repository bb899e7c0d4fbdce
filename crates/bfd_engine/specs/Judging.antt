-- The test that the answer to a discarded arrival names.
use Rattle.std.specs.Prelude.{ℕ, ◌≡◌, ◌/◌, ◌%◌, ◌++◌, List, [], ◌∷◌, length, slice_get, Some}
use Rattle.std.specs.Result.{result_err}
use Rattle.bfd_packet.specs.declared.arrival.Arrival.{Arrival}
use Rattle.bfd_sbfd.specs.Reflect.{reflect}
use Rattle.bfd_session.specs.declared.event.Answer.{Answer}
use Rattle.bfd_session.specs.declared.event.Answer.TheVariants.{Dropped}
use Rattle.bfd_session.specs.declared.event.Event.{Event}
use Rattle.bfd_session.specs.declared.event.Event.TheVariants.{Packet, Returned}
use Rattle.bfd_session.specs.Alone.{effective}
use Rattle.bfd_session.specs.Arrivals.{Destination, Discarded, Reflected, Own as OwnEvent}
use Rattle.bfd_session.specs.Discards.{answer_by, first_discarding, judging}
use Rattle.bfd_session.specs.Kinds.{Running}
use Rattle.bfd_session.specs.Rows.{table_of}
use Rattle.bfd_session.specs.Step.{answer_to_return, awaits, begun, settled}
use Rattle.bfd_shard.specs.declared.entry.Entry.{Entry}
use Rattle.bfd_shard.specs.declared.entry.ShardEvent.TheVariants.{Own}
use Rattle.bfd_shard.specs.History.{events_of, last_tick, runs}
use Rattle.bfd_engine.specs.Turned.{entry_of}
use Rattle.bfd_engine.specs.Engines.{Shards, Knows, configs_at}
use Rattle.bfd_engine.specs.Calls.{seen_at}

-- the answer to a packet at an effective moment: it is discarded by the first of all tests that it fails, and handled if it
-- fails none, over the session's variables after settling (RFC 5880 section 6.8.6)
abbrev pub packet_answer : Shards → Arrival → ℕ → Running → Answer
packet_answer engine arrival eff s =
    answer_by (first_discarding (table_of engine.configs engine.pool) s.config (judging eff s) arrival)

-- the answer to an echo packet that came back: whether its number was awaited, after settling
abbrev pub return_answer : ℕ → ℕ → Running → Answer
return_answer sequence eff s = answer_to_return (awaits s.config sequence (settled s.config eff eff (begun (Some eff) s [])))

-- the last entry seen is this own event, with the answer that is expected of its session as the entries before have left it
pub record IsAnswered (expected : ℕ → Running → Answer) (engine : Shards) (shard place moment : ℕ) (event : Event) (caller : ℕ)
    (seen : List Entry) (answer : Answer) : Type 0 where
  pub before : List Entry
  pub last : seen ≡ before ++ entry_of caller (Own place moment event) ∷ []
  pub session : Running
  pub there : slice_get (runs (events_of before) (configs_at engine shard)) place ≡ Some session
  pub answered : answer ≡ expected (effective moment (last_tick (events_of before)) session) session

abbrev pub answered_at : (ℕ → Running → Answer) → Shards → ℕ → ℕ → Event → Knows → Answer → Type 0
answered_at expected engine moment k event l answer =
    IsAnswered expected engine (k % length engine.locks) (k / length engine.locks) moment event l.0 (seen_at l (k % length engine.locks))
    answer

-- no other event of a session is an arrival
abbrev pub judged_own : Shards → ℕ → ℕ → Event → Knows → Answer → Type 0
judged_own engine moment k (Packet arrival) l answer = answered_at (packet_answer engine arrival) engine moment k (Packet arrival) l answer
judged_own engine moment k (Returned sequence) l answer = answered_at (return_answer sequence) engine moment k (Returned sequence) l answer
judged_own engine moment k event l answer = Unit {0}

-- an arrival that fails a test up to selection was discarded by the first of them. A reflector's packet that fails a test of the
-- reflectors was discarded by the first of those
abbrev pub arrival_judged : Shards → ℕ → Arrival → Destination → Knows → Answer → Type 0
arrival_judged engine moment arrival (Discarded test) l answer = answer ≡ Dropped test
arrival_judged engine moment arrival (Reflected place) l answer = answer ≡ answer_by (result_err (reflect engine.pool arrival))
arrival_judged engine moment arrival (OwnEvent k event) l answer = judged_own engine moment k event l answer
