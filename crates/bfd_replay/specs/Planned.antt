-- What each line of a script resolves to when its sessions are distributed over shards.
use Rattle.std.specs.Prelude.{ℕ, ◌≡◌, ◌<◌, ◌≤◌, ◌+◌, ◌++◌, List, [], ◌∷◌, length, map, reverse, slice_get, slice_index_or, Option, None}
use Rattle.std.specs.Prelude.{Some, Result, Ok, Err}
use Rattle.std.specs.Global.{Vec}
use Rattle.std.specs.List.{All, AllByRecursion, cons_option, filter_map, flat_map}
use Rattle.bfd_packet.specs.declared.arrival.Datagram.{Datagram}
use Rattle.bfd_packet.specs.declared.discard.Test.{Test}
use Rattle.bfd_rules.specs.declared.outputs.Out.TheVariants.{Sent}
use Rattle.bfd_sbfd.specs.declared.reflecting.Reflector.{Reflector}
use Rattle.bfd_sbfd.specs.Reflect.{reflect}
use Rattle.bfd_session.specs.Alone.{Outcome}
use Rattle.bfd_session.specs.declared.event.Answer.{Answer}
use Rattle.bfd_session.specs.declared.event.Answer.TheVariants.{Handled, Dropped}
use Rattle.bfd_session.specs.declared.event.SessionConfig.{SessionConfig}
use Rattle.bfd_shard.specs.declared.entry.ShardEvent.{ShardEvent}
use Rattle.bfd_shard.specs.declared.entry.ShardEvent.TheVariants.{Own, Tick}
use Rattle.bfd_shard.specs.Shard.{CanHappen}
use Rattle.bfd_script.specs.declared.line.entries.Line.{Line}
use Rattle.bfd_script.specs.Doing.{Doing, Rests, Reflects, Happens, Passes, doing}
use Rattle.bfd_script.specs.Reading.{Lists}
use Rattle.bfd_replay.specs.declared.report.queue.Numbered.{Numbered}
use Rattle.bfd_replay.specs.Pieces.{Piece}
use Rattle.bfd_replay.specs.Happenings.{Happening, Apart, Among, session_event, in_shard, numbered, queue, apart_pieces}
use Rattle.bfd_replay.specs.declared.plan.runs.Run.{Run}
use Rattle.bfd_replay.specs.declared.plan.routing.Route.{Route}
use Rattle.bfd_replay.specs.declared.plan.routing.Route.TheVariants as routes

-- the outcome of an event that changes no session, and has this answer
abbrev pub resting : Answer → Outcome
resting answer = record { items = []; answer = answer }

-- the answer that is sent in the name of this reflector
abbrev pub sent_outcome : ℕ → Datagram → Outcome
sent_outcome discr datagram = record { items = Sent discr datagram ∷ []; answer = Handled }

-- the outcome of a reflector's packet (RFC 7880 section 7.2)
abbrev pub reflecting : Option Reflector → Result Datagram Test → Outcome
reflecting reflector (Err test) = resting (Dropped test)
reflecting None (Ok datagram) = resting Handled
reflecting (Some reflector) (Ok datagram) = sent_outcome reflector.discr datagram

-- an event of no session, with its outcome, or an event of the table's sessions
abbrev pub happening_by : List Reflector → Doing → Happening
happening_by pool (Rests answer) = Apart (resting answer)
happening_by pool (Reflects place arrival) = Apart (reflecting (slice_get pool place) (reflect pool arrival))
happening_by pool (Happens place moment event) = Among (Own place moment event)
happening_by pool (Passes t) = Among (Tick t)

abbrev pub happening : List SessionConfig → List Reflector → Line → Happening
happening configs pool line = happening_by pool (doing configs pool line)

-- .. of each line
abbrev pub happenings : List SessionConfig → List Reflector → List Line → List Happening
happenings configs pool lines = map (happening configs pool) lines

-- the events of the table's sessions in a script
abbrev pub events_of_table : Lists → List ShardEvent
events_of_table script = filter_map session_event (happenings script.configs script.pool script.events)

-- an event of the sessions is one that they may be given
abbrev pub IsMet : List SessionConfig → Happening → Type 0
IsMet configs (Apart outcome) = Unit {0}
IsMet configs (Among event) = CanHappen configs event

-- what a line was found to be
abbrev pub route_is : Route → Happening
route_is (routes.Rests answer) = Apart (resting answer)
route_is (routes.Answers out) = Apart (record { items = out ∷ []; answer = Handled })
route_is (routes.Happens event) = Among event

-- the queues of so many shards, of all these events
pub record AreQueues (shards : ℕ) (events : List Happening) (queues : List (List Numbered)) : Type 0 where
  pub long : length queues ≡ shards
  pub each : (shard : ℕ) → shard < shards → slice_index_or queues shard [] ≡ queue shards shard 1 events

-- the event of this number was added to the queues, or to the report of the events of no session
pub record IsPlanned (number : ℕ) (h : Happening) (before after : List (List Numbered)) (apart apart2 : List Piece) : Type 0 where
  pub queued : (shard : ℕ) → shard < length before
      → slice_index_or after shard [] ≡ slice_index_or before shard []
      ++ cons_option (numbered number (in_shard (length before) shard h)) []
  pub reported : apart2 ≡ apart ++ apart_pieces number (h ∷ [])

-- runs of lines one after another; the first line has this number
abbrev pub Follow : ℕ → List Run → Type 0
Follow number [] = Unit {0}
Follow number (r ∷ rest) = (r.first ≡ number) × Follow (number + length r.lines.items) rest

abbrev pub run_lines : List Run → List Line
run_lines runs = flat_map (λ r. r.lines.items) runs

-- these lines in runs
pub record AreRuns (lines : List Line) (runs : List Run) : Type 0 where
  pub follow : Follow 1 runs
  pub whole : run_lines runs ≡ lines
  pub within : All (λ (r : Run). r.first + length r.lines.items ≤ 1 + length lines) runs

-- what was planned of lines of which the first has this number
pub record IsRunPlanned (configs : List SessionConfig) (pool : List Reflector) (shards first : ℕ) (lines : List Line)
    (queues : List (List Numbered)) (apart : List Piece) : Type 0 where
  pub long : length queues ≡ shards
  pub queued : (shard : ℕ) → shard < shards → slice_index_or queues shard [] ≡ queue shards shard first (happenings configs pool lines)
  pub reported : apart ≡ apart_pieces first (happenings configs pool lines)
  pub met : AllByRecursion (IsMet configs) (happenings configs pool lines)

abbrev pub IsPlanOf : List SessionConfig → List Reflector → ℕ → Run → Vec (Vec Numbered) × List Piece → Type 0
IsPlanOf configs pool shards run plan = IsRunPlanned configs pool shards run.first run.lines.items (map (λ q. q.items) plan.0.items) plan.1

-- each queue with one more behind it, as far as there are more
abbrev pub behind : List (List Numbered) → List (List Numbered) → List (List Numbered)
behind [] more = []
behind (x ∷ xs) [] = x ∷ xs
behind (x ∷ xs) (y ∷ ys) = (x ++ y) ∷ behind xs ys

-- the events that are left of a queue: of the piece that they are taken from, which stands in reverse, and of the pieces behind it
abbrev pub events_left : List Numbered → List (Vec Numbered) → List Numbered
events_left left pieces = reverse left ++ flat_map (λ piece. piece.items) pieces

-- a script of these sessions, reflectors and events
abbrev pub script_with : List SessionConfig → List Reflector → List Line → Lists
script_with configs pool events = record { configs = configs; pool = pool; events = events }
