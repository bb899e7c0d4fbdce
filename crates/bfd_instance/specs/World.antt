-- The outcomes of the events of a replay, one after another.
use Rattle.std.specs.Prelude.{ℕ, ◌==◌, Bool, is_some, not, max, Option, None, Some, Result, Ok, Err, List, [], ◌∷◌, map, length, sum_by}
use Rattle.std.specs.Prelude.{slice_get, slice_set}
use Rattle.std.specs.List.{filter, flat_map, insert, list_any, remove}
use Rattle.bfd_packet.specs.declared.arrival.Datagram.{Datagram}
use Rattle.bfd_packet.specs.declared.discard.Test.{Test}
use Rattle.bfd_demux.specs.declared.fault.AddFault.{AddFault}
use Rattle.bfd_demux.specs.Rows.{add_fault}
use Rattle.bfd_rules.specs.declared.outputs.Out.{Out}
use Rattle.bfd_rules.specs.declared.outputs.Out.TheVariants.{Sent}
use Rattle.bfd_sbfd.specs.declared.reflecting.Reflector.{Reflector}
use Rattle.bfd_sbfd.specs.Reflect.{reflect}
use Rattle.bfd_rules.specs.Quantities.{is_up}
use Rattle.bfd_session.specs.declared.event.SessionConfig.{SessionConfig}
use Rattle.bfd_session.specs.declared.event.Event.{Event}
use Rattle.bfd_session.specs.declared.event.Answer.{Answer}
use Rattle.bfd_session.specs.declared.event.Answer.TheVariants.{Handled, Ticked, Dropped}
use Rattle.bfd_session.specs.Kinds.{Running, configs_of, discr_of}
use Rattle.bfd_session.specs.Changes.{place_for, pool_place_for}
use Rattle.bfd_session.specs.Rows.{place_of, row_of, row_of_reflector, table_of}
use Rattle.bfd_session.specs.Step.{started}
use Rattle.bfd_session.specs.Alone.{Outcome, stepped, step_outcome, ticked, tick_items}
use Rattle.bfd_script.specs.declared.line.entries.Line.{Line}
use Rattle.bfd_script.specs.Doing.{Doing, Rests, Reflects, Happens, Passes, doing}
use Rattle.bfd_script.specs.Reading.{Lists}
use Rattle.bfd_script.specs.Report.{packets_sent, dropped, report}

-- the sessions and the reflectors, each by ascending discriminator, and the greatest tick so far
pub record World : Type 0 where
  pub sessions : List Running
  pub pool : List Reflector
  pub last : ℕ

-- an event: the world after it, and its outcome
pub record Turn : Type 0 where
  pub world : World
  pub outcome : Outcome

abbrev pub world_of : List Running → List Reflector → ℕ → World
world_of sessions pool last = record { sessions = sessions; pool = pool; last = last }

abbrev pub turn_giving : World → List Out → Answer → Turn
turn_giving w items answer = record { world = w; outcome = record { items = items; answer = answer } }

abbrev pub turned : List Running → List Reflector → ℕ → List Out → Answer → Turn
turned sessions pool last items answer = turn_giving (world_of sessions pool last) items answer

-- the world at the start
abbrev pub opened : List SessionConfig → List Reflector → World
opened configs pool = world_of (map started configs) pool 0

-- the world with one more session, of this configuration: it stands in the order of discriminators, with the variables of the start
abbrev pub world_with : SessionConfig → World → World
world_with config w = record w { sessions = insert w.sessions (place_for (discr_of config) (configs_of w.sessions)) (started config) }

-- without the session at a place
abbrev pub without_at : Option ℕ → World → World
without_at None w = w
without_at (Some place) w = record w { sessions = remove w.sessions place }

-- and without the session of this discriminator
abbrev pub world_without : ℕ → World → World
world_without discr w = without_at (place_of discr (configs_of w.sessions)) w

-- the same of reflectors
abbrev pub world_with_reflector : Reflector → World → World
world_with_reflector reflector w = record w { pool = insert w.pool (pool_place_for reflector.discr w.pool) reflector }

abbrev pub world_without_reflector : ℕ → World → World
world_without_reflector discr w = record w { pool = filter (λ reflector. not (reflector.discr == discr)) w.pool }

-- a session has this discriminator, and a reflector
abbrev pub knows_session : ℕ → World → Bool
knows_session discr w = is_some (place_of discr (configs_of w.sessions))

abbrev pub knows_reflector : ℕ → World → Bool
knows_reflector discr w = list_any (λ reflector. reflector.discr == discr) w.pool

-- why a session or a reflector can't be added
abbrev pub session_fault : SessionConfig → World → Option AddFault
session_fault config w = add_fault (row_of config) (table_of (configs_of w.sessions) w.pool)

abbrev pub reflector_fault : Reflector → World → Option AddFault
reflector_fault reflector w = add_fault (row_of_reflector reflector) (table_of (configs_of w.sessions) w.pool)

-- an event that changes no session, and has this answer
abbrev pub rests : Answer → World → Turn
rests answer w = turn_giving w [] answer

-- an own event of the session at this place, and of no other
abbrev pub own_of : Option Running → ℕ → ℕ → Event → World → Turn
own_of None place moment event w = rests Handled w
own_of (Some s) place moment event w = record {
  world = record w { sessions = slice_set w.sessions place (stepped moment w.last event s) };
  outcome = step_outcome moment w.last event s;
}

unfoldable pub own : ℕ → ℕ → Event → World → Turn
own place moment event w = own_of (slice_get w.sessions place) place moment event w

-- a tick is an event of every session; one below the last tick counts as the last tick
unfoldable pub ticks : ℕ → World → Turn
ticks t w =
    let last : ℕ = max w.last t in
    record {
      world = record w { sessions = map (ticked last) w.sessions; last = last };
      outcome = record { items = flat_map (tick_items last) w.sessions; answer = Ticked };
    }

-- a reflector's answer is sent in its name, or a test of the reflectors' port discards the packet (RFC 7880 section 7.2)
abbrev pub reflected : Option Reflector → Result Datagram Test → World → Turn
reflected reflector (Err test) w = rests (Dropped test) w
reflected None (Ok datagram) w = rests Handled w
reflected (Some reflector) (Ok datagram) w = turn_giving w (Sent reflector.discr datagram ∷ []) Handled

-- what a line that resolves to this does
abbrev pub carried_out : Doing → World → Turn
carried_out (Rests answer) w = rests answer w
carried_out (Reflects place arrival) w = reflected (slice_get w.pool place) (reflect w.pool arrival) w
carried_out (Happens place moment event) w = own place moment event w
carried_out (Passes t) w = ticks t w

-- a line of a script
abbrev pub happens : Line → World → Turn
happens line w = carried_out (doing (configs_of w.sessions) w.pool line) w

-- the place of the session to which an event came; none if it came to no session, to a reflector, or as a tick to all
abbrev pub reached : Doing → Option ℕ
reached (Rests answer) = None
reached (Reflects place arrival) = None
reached (Happens place moment event) = Some place
reached (Passes t) = None

-- the same of a line of a script
abbrev pub place_reached : Line → World → Option ℕ
place_reached line w = reached (doing (configs_of w.sessions) w.pool line)

-- the discriminator of the session at a place, or 0
abbrev pub session_discr : Option Running → ℕ
session_discr None = 0
session_discr (Some s) = discr_of s.config

abbrev pub discr_of_place : Option ℕ → World → ℕ
discr_of_place None w = 0
discr_of_place (Some place) w = session_discr (slice_get w.sessions place)

-- that of the session to which a line came
abbrev pub discr_reached : Line → World → ℕ
discr_reached line w = discr_of_place (place_reached line w) (happens line w).world

-- the outcomes of the lines, one after another
abbrev pub outcomes : List Line → World → List Outcome
outcomes [] w = []
outcomes (event ∷ events) w = (happens event w).outcome ∷ outcomes events (happens event w).world

-- the world after the lines
abbrev pub world_after : List Line → World → World
world_after [] w = w
world_after (event ∷ events) w = world_after events (happens event w).world

-- the outcomes of the events of a script
abbrev pub world : Lists → List Outcome
world script = outcomes script.events (opened script.configs script.pool)

-- the world that a script leaves
abbrev pub world_left : Lists → World
world_left script = world_after script.events (opened script.configs script.pool)

-- how many events there are, how many packets are sent and dropped in them, and how many sessions are Up at the end
pub record Totals : Type 0 where
  pub events : ℕ
  pub txs : ℕ
  pub drops : ℕ
  pub ups : ℕ

abbrev pub totals : Lists → Totals
totals script = record {
  events = length (world script);
  txs = sum_by packets_sent (world script);
  drops = sum_by dropped (world script);
  ups = length (filter (λ s. is_up s.vars.state) (world_left script).sessions);
}

-- the report of a replay of the script
abbrev pub replayed : Lists → List ℕ
replayed script = report (world script)
