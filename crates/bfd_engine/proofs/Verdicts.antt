-- The answer to an arrival names the first test that it fails.
use Rattle.bfd_engine.proofs.Common.{◌≡◌, ◌<◌, ◌+◌, ◌++◌, ◌∷◌, [], ℕ, zero, suc, List, length, Option, None, Some, Result, Ok, Err, IfOk}
use Rattle.bfd_engine.proofs.Common.{refl, slice_get, option_or, Arrival, Test, Row, Out, Target, Session, Echo, first_table_failing}
use Rattle.bfd_engine.proofs.Common.{target_of, Answer, Event, SessionConfig, coming_to, coming_by, comes_to, Running, table_of, reply}
use Rattle.bfd_engine.proofs.Common.{Entry, ShardEvent, Own, events_of, last_tick, outcome_of, run, runs, runs_from, IsTaken, Shards, Knows}
use Rattle.bfd_engine.proofs.Common.{configs_at, IsCall, IsDone, coming_act, seen_at, IsAnswered, packet_answer, return_answer}
use Rattle.bfd_engine.proofs.Common.{arrival_judged, EngineFault}
use Rattle.std.proofs.Common.{ap₂, sym, ◌∙◌, subst}
use Rattle.bfd_session.specs.Arrivals.{Destination, Discarded, Reflected, Own as OwnEvent}
use Rattle.bfd_engine.specs.Calls.{own_act}
use Rattle.bfd_demux.specs.declared.target.Target.TheVariants.{Reflector as ReflectorAt}
use Rattle.bfd_session.specs.declared.event.Event.TheVariants.{Packet, Returned}
use Rattle.bfd_session.specs.Alone.{effective}
use Rattle.bfd_session.specs.Discards.{first_own_failing, judging}
use Rattle.bfd_session.proofs.Discarding.{discards_first, reply_first}
use Rattle.bfd_engine.proofs.Reaching.{dealt_event}

-- a session stands where its configuration does
pub runs_there : (p : ℕ) (es : List ShardEvent) (cs : List SessionConfig) (k : ℕ) (c : SessionConfig) → slice_get cs k ≡ Some c
    → (s : Running) × (slice_get (runs_from p es cs) k ≡ Some s)
unfolding runs_from
runs_there p es [] k c e = absurd (cc)
runs_there p es (x ∷ cs) zero c e = (run p es x, refl)
runs_there p es (x ∷ cs) (suc k) c e = runs_there (p + 1) es cs k c e

pub own_answer : (last place moment : ℕ) (event : Event) (ss : List Running) (s : Running) → slice_get ss place ≡ Some s
    → (outcome_of last (Own place moment event) ss).answer ≡ reply (effective moment last s) event s
unfolding outcome_of
own_answer last place moment event ss s there = cc

only_own : {failing : Option Test} (own : Option Test) {all : Option Test} → all ≡ option_or failing own → None ≡ failing → own ≡ all
only_own own is none = cc

pub packet_is : (engine : Shards) (arrival : Arrival) (eff : ℕ) (s : Running)
    → None ≡ first_table_failing (table_of engine.configs engine.pool) arrival
    → reply eff (Packet arrival) s ≡ packet_answer engine arrival eff s
packet_is engine arrival eff s none = cc (
  reply_first s eff arrival,
  only_own (first_own_failing s.config (judging eff s) arrival)
      (discards_first (table_of engine.configs engine.pool) s.config (judging eff s) arrival) none,
)

pub return_is : (sequence eff : ℕ) (s : Running) → reply eff (Returned sequence) s ≡ return_answer sequence eff s
unfolding reply
return_is sequence eff s = refl

judged_call : {expected : ℕ → Running → Answer} {engine : Shards} {shard place moment : ℕ} {event : Event} {k l : Knows} {outs outs2 : List
    Out} {answer : Answer}
    → ((eff : ℕ) (s : Running) → reply eff event s ≡ expected eff s) → IsTaken (configs_at engine shard) place event
    → IsCall engine shard (Own place moment event) k l outs outs2 answer
    → IsAnswered expected engine shard place moment event l.0 (seen_at l shard) answer
judged_call {engine} {shard} {place} {moment} {event} {k} is taken call =
    let before : List Entry = seen_at k shard ++ call.between in
    let s = runs_there 0 (events_of before) (configs_at engine shard) place _ taken.there in record {
      before = before;
      last = cc;
      session = s.0;
      there = s.1;
      answered = cc (
        own_answer (last_tick (events_of before)) place moment event (runs (events_of before) (configs_at engine shard)) s.0
            s.1,
        is (effective moment (last_tick (events_of before)) s.0) s.0,
      );
    }

-- the judgement of an arrival's answer, for one who knows where it goes
abbrev pub Judged : Shards → ℕ → Arrival → Knows → Result Answer EngineFault → Destination → Type 0
Judged engine moment arrival l result to = IfOk result (λ answer. arrival_judged engine moment arrival to l answer)

-- a packet for the session at a place
pub judged_packet : (engine : Shards) (moment : ℕ) (arrival : Arrival) (k l : Knows) (outs outs2 : List Out)
    (result : Result Answer EngineFault) (place : ℕ)
    → 0 < length engine.locks → None ≡ first_table_failing (table_of engine.configs engine.pool) arrival
    → IsTaken engine.configs place (Packet arrival) → IsDone (own_act engine moment place (Packet arrival)) engine k l outs outs2 result
    → Judged engine moment arrival l result (OwnEvent place (Packet arrival))
judged_packet engine moment arrival k l outs outs2 (Ok answer) place some none taken done =
    judged_call (λ eff s. packet_is engine arrival eff s none) (dealt_event engine _ _ _ refl some taken) done
judged_packet engine moment arrival k l outs outs2 (Err fault) place some none taken done = tt

-- an echo packet that came back to it
pub judged_return : (engine : Shards) (moment : ℕ) (arrival : Arrival) (k l : Knows) (outs outs2 : List Out)
    (result : Result Answer EngineFault) (place sequence : ℕ)
    → 0 < length engine.locks → IsTaken engine.configs place (Returned sequence)
    → IsDone (own_act engine moment place (Returned sequence)) engine k l outs outs2 result
    → Judged engine moment arrival l result (OwnEvent place (Returned sequence))
judged_return engine moment arrival k l outs outs2 (Ok answer) place sequence some taken done =
    judged_call (λ eff s. return_is sequence eff s) (dealt_event engine _ _ _ refl some taken) done
judged_return engine moment arrival k l outs outs2 (Err fault) place sequence some taken done = tt
