-- What is kept of each session in addition to its variables, and what an event adds to it.
use Rattle.std.specs.Prelude.{ℕ, ◌+◌, ◌-◌, ◌*◌, ◌^◌, max, min, Option, None, Some, List, [], ◌∷◌, map, replicate, slice_get, slice_index}
use Rattle.std.specs.Prelude.{Bool, true, false, if◌then◌else◌, slice_index_or, slice_set}
use Rattle.std.specs.List.{insert, remove}
use Rattle.bfd_packet.specs.declared.arrival.Arrival.{Arrival}
use Rattle.bfd_packet.specs.declared.arrival.Port.{Port}
use Rattle.bfd_packet.specs.declared.arrival.Port.TheVariants.{Single, Multi, Echo, Sbfd, Answer as Answering}
use Rattle.bfd_packet.specs.declared.control.State.{State}
use Rattle.bfd_packet.specs.declared.control.State.TheVariants.{AdminDown as AdminDownState, Down, Init, Up}
use Rattle.bfd_packet.specs.declared.discard.Test.{Test}
use Rattle.bfd_packet.specs.declared.discard.Test.TheVariants.{Short, Version, LengthMin, LengthOver, DetectMult, Multipoint, MyDiscr}
use Rattle.bfd_packet.specs.declared.discard.Test.TheVariants.{YourUnknown, YourZeroState, NoSession, Ttl, AuthUnexpected, AuthMissing}
use Rattle.bfd_packet.specs.declared.discard.Test.TheVariants.{AuthType, AuthKey, AuthLen, AuthSeq, AuthDigest, AdminDown, NotDemand}
use Rattle.bfd_packet.specs.declared.discard.Test.TheVariants.{MultipointYour, NoTail, EchoForm, EchoStale}
use Rattle.bfd_packet.specs.Layout.{fields_of}
use Rattle.bfd_rules.specs.declared.outputs.Out.{Out}
use Rattle.bfd_rules.specs.declared.outputs.Out.TheVariants.{Changed, Sent}
use Rattle.bfd_session.specs.declared.event.SessionConfig.{SessionConfig}
use Rattle.bfd_session.specs.declared.event.SessionConfig.TheVariants.{PointToPoint, Initiator, Head, Tail}
use Rattle.bfd_session.specs.declared.event.Answer.{Answer}
use Rattle.bfd_session.specs.declared.event.Answer.TheVariants.{Dropped}
use Rattle.bfd_session.specs.Changes.{place_for}
use Rattle.bfd_session.specs.Kinds.{Running, configs_of, discr_of}
use Rattle.bfd_session.specs.Rows.{place_of}
use Rattle.bfd_script.specs.declared.line.entries.Line.{Line}
use Rattle.bfd_script.specs.declared.line.entries.Line.TheVariants.{Rx}
use Rattle.bfd_instance.specs.World.{World, happens, place_reached}
use Rattle.bfd_c.specs.declared.records.kept.Came.{Came}
use Rattle.bfd_c.specs.declared.records.kept.Came.TheVariants.{Nothing, Echoed, Control}
use Rattle.bfd_c.specs.declared.records.kept.Kind.{Kind}
use Rattle.bfd_c.specs.declared.records.kept.Kind.TheVariants as kinds
use Rattle.bfd_c.specs.declared.records.kept.Record.{Record}

-- one more of what is counted; a count stays at the greatest number of 32 bits
abbrev pub one_counted : ℕ → ℕ
one_counted count = min (count + 1) (2 ^ 32 - 1)

-- the number of a test that discards, and its place among the counts of what was dropped
abbrev pub test_number : Test → ℕ
test_number Short = 1
test_number Version = 2
test_number LengthMin = 3
test_number LengthOver = 4
test_number DetectMult = 5
test_number Multipoint = 6
test_number MyDiscr = 7
test_number YourUnknown = 8
test_number YourZeroState = 9
test_number NoSession = 10
test_number Ttl = 11
test_number AuthUnexpected = 12
test_number AuthMissing = 13
test_number AuthType = 14
test_number AuthKey = 15
test_number AuthLen = 16
test_number AuthSeq = 17
test_number AuthDigest = 18
test_number AdminDown = 19
test_number NotDemand = 20
test_number MultipointYour = 21
test_number NoTail = 22
test_number EchoForm = 23
test_number EchoStale = 24

-- the kind of a session
abbrev pub session_kind : SessionConfig → Kind
session_kind (PointToPoint c) = kinds.PointToPoint
session_kind (Initiator c) = kinds.Initiator
session_kind (Head c) = kinds.Head
session_kind (Tail c) = kinds.Tail

-- the record of a session of this kind before its first event
abbrev pub blank : Kind → Record
blank kind = record {
  kind = kind;
  received = 0;
  sent = 0;
  dropped = replicate 25 0;
  ups = 0;
  downs = 0;
  peer_diag = 0;
  heard = None;
  changed = None;
}

-- the record of a new session
abbrev pub fresh : SessionConfig → Record
fresh config = blank (session_kind config)

-- a state was entered
abbrev pub entered : State → Record → Record
entered Up r = record r { ups = one_counted r.ups }
entered Down r = record r { downs = one_counted r.downs }
entered Init r = r
entered AdminDownState r = r

-- the session gave this output, at this moment
abbrev pub gave : Out → ℕ → Record → Record
gave (Sent discr datagram) moment r = record r { sent = one_counted r.sent }
gave (Changed discr was state diag) moment r = record (entered state r) { changed = Some moment }

-- what came with an event: an echo packet, or a control packet with this diagnostic
abbrev pub came_on : Port → Arrival → Came
came_on Echo arrival = Echoed
came_on Single arrival = Control (fields_of arrival.payload).diag
came_on Multi arrival = Control (fields_of arrival.payload).diag
came_on Sbfd arrival = Control (fields_of arrival.payload).diag
came_on Answering arrival = Control (fields_of arrival.payload).diag

abbrev pub came_with : Line → Came
came_with (Rx moment arrival) = came_on arrival.port arrival
came_with _ = Nothing

-- a packet was received, and dropped by this test
abbrev pub discarded_by : Test → Record → Record
discarded_by test r =
    record r {
      received = one_counted r.received;
      dropped =
          slice_set r.dropped (test_number test) (one_counted (slice_index r.dropped (test_number test)));
    }

-- the fields of a control packet with this diagnostic were stored at this moment
abbrev pub stored : ℕ → ℕ → Record → Record
stored diag moment r = record r { heard = Some moment; peer_diag = diag }

-- whether the fields of a control packet are stored before this test, which is the last one (RFC 5880 section 6.8.6)
abbrev pub is_stored_before : Test → Bool
is_stored_before AdminDown = true
is_stored_before _ = false

-- a control packet with this diagnostic was dropped by this test, at this moment
abbrev pub control_dropped : Test → ℕ → ℕ → Record → Record
control_dropped test diag moment r =
    if is_stored_before test then stored diag moment (discarded_by test r) else discarded_by test r

-- what came to the session had this answer, at this moment
abbrev pub answered_with : Came → Answer → ℕ → Record → Record
answered_with Nothing answer moment r = r
answered_with Echoed (Dropped test) moment r = discarded_by test r
answered_with Echoed _ moment r = record r { received = one_counted r.received }
answered_with (Control diag) (Dropped test) moment r = control_dropped test diag moment r
answered_with (Control diag) _ moment r = stored diag moment (record r { received = one_counted r.received })

-- the moment of an event of a session after it: no earlier than the last tick and the session's last own event
abbrev pub moment_of : ℕ → Option Running → ℕ
moment_of last None = 1000 * last
moment_of last (Some s) = max (1000 * last) s.vars.at

-- the same of the session at a place
abbrev pub moment_at : World → ℕ → ℕ
moment_at w place = moment_of w.last (slice_get w.sessions place)

-- the record at a place is changed; `w` is the world after the event
abbrev pub changed_at : Option ℕ → (ℕ → Record → Record) → World → List Record → List Record
changed_at None change w rs = rs
changed_at (Some place) change w rs =
    slice_set rs place (change (moment_at w place) (slice_index_or rs place (blank kinds.PointToPoint)))

-- whose an output is
abbrev pub giver : Out → ℕ
giver (Sent discr datagram) = discr
giver (Changed discr was state diag) = discr

-- each output is recorded for the session that it names
abbrev pub all_given : World → List Record → List Out → List Record
all_given w rs [] = rs
all_given w rs (out ∷ outs) = all_given w (changed_at (place_of (giver out) (configs_of w.sessions)) (gave out) w rs) outs

-- the records after an event: first what came is recorded for the session to which it came, then the outputs are
abbrev pub recorded : Line → World → List Record → List Record
recorded line w rs =
    let after : World = (happens line w).world in
    all_given after (changed_at (place_reached line w) (answered_with (came_with line) (happens line w).outcome.answer) after rs)
    (happens line w).outcome.items

-- the records with that of one more session, at its place, and without that of a discriminator
abbrev pub records_with : SessionConfig → World → List Record → List Record
records_with config w rs = insert rs (place_for (discr_of config) (configs_of w.sessions)) (fresh config)

abbrev pub without_record_at : Option ℕ → List Record → List Record
without_record_at None rs = rs
without_record_at (Some place) rs = remove rs place

abbrev pub records_without : ℕ → World → List Record → List Record
records_without discr w rs = without_record_at (place_of discr (configs_of w.sessions)) rs

-- a world with its sessions' records
pub record Kept : Type 0 where
  pub world : World
  pub items : List Out
  pub records : List Record

-- one record for each session, of its kind
abbrev pub kinds_of : List Running → List Kind
kinds_of sessions = map (λ s. session_kind s.config) sessions

abbrev pub kinds_in : List Record → List Kind
kinds_in rs = map (λ r. r.kind) rs
