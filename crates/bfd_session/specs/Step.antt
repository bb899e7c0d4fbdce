-- One event of a session: what has come due, the event's own rules, and the end of the event.
use Rattle.std.specs.Prelude.{◌≡◌, ◌<◌, ◌^◌, ◌↔◌, ℕ, Bool, true, false, Option, None, Some, IsSome, IsTrue, IfSome, List, []}
use Rattle.bfd_packet.specs.declared.discard.Test.TheVariants.{EchoStale}
use Rattle.bfd_packet.specs.declared.arrival.Arrival.{Arrival}
use Rattle.bfd_packet.specs.declared.arrival.Port.{Port}
use Rattle.bfd_packet.specs.declared.arrival.Port.TheVariants.{Single as SinglePort, Answer as AnswerPort}
use Rattle.bfd_packet.specs.declared.control.Control.{Control}
use Rattle.bfd_packet.specs.Layout.{fields_of}
use Rattle.bfd_packet.specs.HeaderTests.{first_failing}
use Rattle.bfd_rules.specs.declared.commands.Cmd.{Cmd}
use Rattle.bfd_rules.specs.declared.commands.Refusal.{Refusal}
use Rattle.bfd_rules.specs.declared.config.Config.{Config}
use Rattle.bfd_rules.specs.declared.outputs.Out.{Out}
use Rattle.bfd_rules.specs.declared.variables.Vars.{Vars}
use Rattle.bfd_rules.specs.EventFrame.{Course, course, begins, stamped}
use Rattle.bfd_rules.specs.Sound as point
use Rattle.bfd_rules.specs.declared.verdict.Verdict.{Verdict}
use Rattle.bfd_rules.specs.declared.verdict.Verdict.TheVariants.{Accepted, Dropped as Discarded}
use Rattle.bfd_p2p.specs.Port.{port_of}
use Rattle.bfd_p2p.specs.Settle as point_settle
use Rattle.bfd_p2p.specs.Receive as point_receive
use Rattle.bfd_p2p.specs.Command as point_command
use Rattle.bfd_p2p.specs.Finish as point_finish
use Rattle.bfd_p2p.specs.Machine as point_machine
use Rattle.bfd_sbfd.specs.Sound as initiator
use Rattle.bfd_sbfd.specs.Settle as initiator_settle
use Rattle.bfd_sbfd.specs.Receive as initiator_receive
use Rattle.bfd_sbfd.specs.Command as initiator_command
use Rattle.bfd_sbfd.specs.Finish as initiator_finish
use Rattle.bfd_sbfd.specs.Machine as initiator_machine
use Rattle.bfd_mp.specs.Sound as tree
use Rattle.bfd_mp.specs.HeadSettle as head_settle
use Rattle.bfd_mp.specs.HeadFinish as head_finish
use Rattle.bfd_mp.specs.TailSettle as tail_settle
use Rattle.bfd_mp.specs.TailReceive as tail_receive
use Rattle.bfd_mp.specs.Command as tree_command
use Rattle.bfd_mp.specs.Machine as tree_machine
use Rattle.bfd_echo.specs.Rules.{HasMoments}
use Rattle.bfd_session.specs.declared.event.SessionConfig.{SessionConfig}
use Rattle.bfd_session.specs.declared.event.SessionConfig.TheVariants.{PointToPoint, Initiator, Head, Tail}
use Rattle.bfd_session.specs.declared.event.Event.{Event}
use Rattle.bfd_session.specs.declared.event.Event.TheVariants.{Packet, Returned, Command, Show}
use Rattle.bfd_session.specs.declared.event.Answer.{Answer}
use Rattle.bfd_session.specs.declared.event.Answer.TheVariants.{Handled, Dropped, Refused, Shown as Showing}
use Rattle.bfd_session.specs.Kinds.{Running, Flow, flow, along, left_by}
use Rattle.bfd_session.specs.Echoing.{should_echo, echoing, settles_echo, is_awaited, takes_back, turns_echo}
use Rattle.bfd_session.specs.Showing.{shown}

-- a configuration that a session may have
abbrev pub IsFit : SessionConfig → Type 0
IsFit (PointToPoint c) = point.IsConfig c
IsFit (Initiator c) = initiator.IsInitiatorConfig c
IsFit (Head c) = tree.IsHeadConfig c
IsFit (Tail c) = tree.IsTailConfig c

-- a point-to-point session between events: sound variables, and an Echo function if and only if one should run
pub record IsPointSound (c : Config) (s : Running) : Type 0 where
  pub vars : point.IsSound c s.vars
  pub echoes : IsSome s.echo ↔ IsTrue (should_echo c s.vars)
  pub moments : IfSome s.echo HasMoments

-- every other kind of session has no Echo function
pub record IsEcholess (s : Running) : Type 0 where
  pub none : s.echo ≡ None
  pub none_sent : s.echo_next ≡ 0

-- an initiator, a head and a tail between events
pub record IsPlainSound (IsVars : Vars → Type 0) (s : Running) : Type 0 where
  pub vars : IsVars s.vars
  pub echoless : IsEcholess s

-- a session between events
abbrev pub sound_by : SessionConfig → Running → Type 0
sound_by (PointToPoint c) s = IsPointSound c s
sound_by (Initiator c) s = IsPlainSound (initiator.IsInitiatorSound c) s
sound_by (Head c) s = IsPlainSound tree.IsHeadSound s
sound_by (Tail c) s = IsPlainSound (tree.IsTailSound c) s

abbrev pub IsSound : Running → Type 0
IsSound s = sound_by s.config s

-- the variables at the start
abbrev pub made : SessionConfig → Vars
made (PointToPoint c) = point_machine.made c
made (Initiator c) = initiator_machine.made c
made (Head c) = tree_machine.head_made c
made (Tail c) = tree_machine.tail_made c

-- a session at the start
abbrev pub started : SessionConfig → Running
started c = record { config = c; vars = made c; echo = None; echo_next = 0 }

-- a control packet on this port, with M set or clear, that passes the port's header tests
pub record IsFor (on : Port) (set : Bool) (arrival : Arrival) : Type 0 where
  pub port : arrival.port ≡ on
  pub header : first_failing arrival.port arrival.payload ≡ None
  pub multi : (fields_of arrival.payload).multi ≡ set

-- a packet that a session may receive: one with M set is for a tail (RFC 8562), and a head hears nothing
abbrev pub TakesPacket : SessionConfig → Arrival → Type 0
TakesPacket (PointToPoint c) arrival = IsFor (port_of c.role) false arrival
TakesPacket (Initiator c) arrival = IsFor AnswerPort false arrival
TakesPacket (Head c) arrival = ⊥
TakesPacket (Tail c) arrival = IsFor SinglePort true arrival

-- an event that a session may receive
abbrev pub CanTake : SessionConfig → Event → Type 0
CanTake c (Packet arrival) = TakesPacket c arrival
CanTake c event = Unit {0}

-- the numbers of a packet that the session keeps fit their fields; those of every packet of bytes do
abbrev pub FitsFields : SessionConfig → Control → Type 0
FitsFields (PointToPoint c) packet = point_receive.IsSized packet
FitsFields (Initiator c) packet = packet.min_rx < 2 ^ 32
FitsFields (Head c) packet = Unit {0}
FitsFields (Tail c) packet = tail_receive.IsSized packet

abbrev pub HasSize : SessionConfig → Event → Type 0
HasSize c (Packet arrival) = FitsFields c (fields_of arrival.payload)
HasSize c event = Unit {0}

-- what has come due by the limit is done: detection, sequence, the periodic packet, and the Echo function's failure or sending
abbrev pub settled : SessionConfig → ℕ → ℕ → Flow → Flow
settled (PointToPoint c) limit eff f = settles_echo c limit eff (along f (point_settle.settle c limit eff f.course))
settled (Initiator c) limit eff f = along f (initiator_settle.settle c limit eff f.course)
settled (Head c) limit eff f = along f (head_settle.settle c limit eff f.course)
settled (Tail c) limit eff f = along f (tail_settle.settle c limit f.course)

-- the event's own rules
abbrev pub acted : SessionConfig → ℕ → Event → Flow → Flow
acted (PointToPoint c) eff (Packet arrival) f = along f (point_receive.received c eff arrival.ttl arrival.payload f.course)
acted (PointToPoint c) eff (Returned sequence) f = takes_back c eff sequence f
acted (PointToPoint c) eff (Command cmd) f = along f (point_command.commanded c eff cmd f.course)
acted (Initiator c) eff (Packet arrival) f = along f (initiator_receive.received c eff arrival.payload f.course)
acted (Initiator c) eff (Command cmd) f = along f (initiator_command.commanded c cmd f.course)
acted (Head c) eff (Command cmd) f = along f (tree_command.head_commanded c cmd f.course)
acted (Tail c) eff (Packet arrival) f = along f (tail_receive.received c eff arrival.payload f.course)
acted (Tail c) eff (Command cmd) f = along f (tree_command.tail_commanded c cmd f.course)
acted _ eff _ f = f

-- the end of the event: the extra packet, the next due tick, and the Echo function starts or stops; none of these for a tail
abbrev pub finished : SessionConfig → ℕ → Flow → Flow
finished (PointToPoint c) eff f = turns_echo c eff (along f (point_finish.finish c eff f.course))
finished (Initiator c) eff f = along f (initiator_finish.finish c eff f.course)
finished (Head c) eff f = along f (head_finish.finish c eff f.course)
finished (Tail c) eff f = f

-- an event begins with no outputs; an own event has an effective moment, a tick none
abbrev pub begins_with : Option ℕ → Vars → List Out → Course
begins_with own v os = course (stamped own v) (begins (stamped own v)) os

abbrev pub begun : Option ℕ → Running → List Out → Flow
begun own s os = flow (begins_with own s.vars os) s.echo s.echo_next

-- an own event at its effective moment
unfoldable pub step : SessionConfig → ℕ → Event → Flow → Flow
step c eff event f = finished c eff (acted c eff event (settled c eff eff f))

-- a tick: what has come due by the limit is done, at the effective moment
unfoldable pub tick : SessionConfig → ℕ → ℕ → Flow → Flow
tick c limit eff f = finished c eff (settled c limit eff f)

-- how an own event of a session ends, behind these outputs
abbrev pub step_from : ℕ → Event → Running → List Out → Flow
step_from eff event s os = step s.config eff event (begun (Some eff) s os)

-- and behind none
unfoldable pub stepped_flow : ℕ → Event → Running → Flow
stepped_flow eff event s = step_from eff event s []

-- the session after an own event, and the event's outputs
abbrev pub next : ℕ → Event → Running → Running
next eff event s = left_by (stepped_flow eff event s) s

unfoldable pub emits : ℕ → Event → Running → List Out
emits eff event s = (stepped_flow eff event s).course.outs

-- how a tick of a session ends, behind these outputs
abbrev pub tick_from : ℕ → ℕ → Running → List Out → Flow
tick_from limit eff s os = tick s.config limit eff (begun None s os)

-- and behind none
unfoldable pub ticked_flow : ℕ → ℕ → Running → Flow
ticked_flow limit eff s = tick_from limit eff s []

-- the session after a tick, and the tick's outputs
abbrev pub tick_next : ℕ → ℕ → Running → Running
tick_next limit eff s = left_by (ticked_flow limit eff s) s

unfoldable pub tick_emits : ℕ → ℕ → Running → List Out
tick_emits limit eff s = (ticked_flow limit eff s).course.outs

-- the answer to a packet, by the verdict on it
abbrev pub answer_to_packet : Verdict → Answer
answer_to_packet Accepted = Handled
answer_to_packet (Discarded test) = Dropped test

-- the answer to a command, by the refusal of it
abbrev pub answer_to_command : Option Refusal → Answer
answer_to_command None = Handled
answer_to_command (Some refusal) = Refused refusal

-- the answer to an echo packet that came back: whether its number was awaited
abbrev pub answer_to_return : Bool → Answer
answer_to_return true = Handled
answer_to_return false = Dropped EchoStale

-- the verdict on a packet, by the variables after settling; a head receives no packets
abbrev pub verdict_by : SessionConfig → Arrival → Vars → Verdict
verdict_by (PointToPoint c) arrival v = point_receive.verdict_on c arrival.ttl arrival.payload v
verdict_by (Initiator c) arrival v = initiator_receive.verdict_on arrival.payload v
verdict_by (Head c) arrival v = Accepted
verdict_by (Tail c) arrival v = tail_receive.verdict_on arrival.payload v

-- the first refusal of a command
abbrev pub refused_by : SessionConfig → Vars → Cmd → Option Refusal
refused_by (PointToPoint c) v cmd = point_command.refusal c v cmd
refused_by (Initiator c) v cmd = initiator_command.refusal v cmd
refused_by (Head c) v cmd = tree_command.head_refusal v cmd
refused_by (Tail c) v cmd = tree_command.tail_refusal v cmd

-- the echo packets of this number are awaited; none of a session without the Echo function
abbrev pub awaits : SessionConfig → ℕ → Flow → Bool
awaits (PointToPoint c) sequence f = is_awaited sequence (echoing c f.course.vars f.echo)
awaits _ sequence f = false

-- the answer that an event gets after settling
abbrev pub answer_of : SessionConfig → Event → Flow → Answer
answer_of c (Packet arrival) f = answer_to_packet (verdict_by c arrival f.course.vars)
answer_of c (Returned sequence) f = answer_to_return (awaits c sequence f)
answer_of c (Command cmd) f = answer_to_command (refused_by c f.course.vars cmd)
answer_of c Show f = Showing (shown c f.course.vars)

-- the answer of an own event, behind these outputs
abbrev pub reply_from : ℕ → Event → Running → List Out → Answer
reply_from eff event s os = answer_of s.config event (settled s.config eff eff (begun (Some eff) s os))

-- the answer of an own event
unfoldable pub reply : ℕ → Event → Running → Answer
reply eff event s = reply_from eff event s []
