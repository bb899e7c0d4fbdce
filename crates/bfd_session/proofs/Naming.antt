-- Each output of an event names the event's session.
use Rattle.bfd_session.proofs.Common.{◌≡◌, ◌&&◌, ℕ, Bool, true, false, List, [], Option, None, Some, is_some, Result, Ok, Err}
use Rattle.bfd_session.proofs.Common.{if◌then◌else◌, AllByRecursion, Control, Test, SeqState, floor_tick, has_come, Cmd, Config, Vars}
use Rattle.bfd_session.proofs.Common.{may_send, deadline, seq_deadline, is_admin_down, Course, changes, sends, is_unannounced, redrawn}
use Rattle.bfd_session.proofs.Common.{renews}
use Rattle.bfd_session.proofs.Common.{moves, transmits, refusal, commanded, Echo, EchoResult, Nothing, Failed, SessionConfig, PointToPoint}
use Rattle.bfd_session.proofs.Common.{Event}
use Rattle.bfd_session.proofs.Common.{Packet, Returned, Command, Show, Running, Flow, discr_of, settled_by, settled_running, settles_echo}
use Rattle.bfd_session.proofs.Common.{echoing, step, tick, acted, finished, begun, stepped_flow, ticked_flow, emits, tick_emits, Initiator}
use Rattle.bfd_session.proofs.Common.{Head}
use Rattle.bfd_session.proofs.Common.{Tail, settled, own_name, changes_names, sends_names}
use Rattle.bfd_packet.specs.declared.arrival.Datagram.{Datagram}
use Rattle.bfd_p2p.specs.Settle as settling
use Rattle.bfd_p2p.specs.Receive as receiving
use Rattle.bfd_p2p.specs.Finish as finishing
use Rattle.bfd_sbfd.proofs.Naming as initiator
use Rattle.bfd_mp.proofs.Naming as tree
use Rattle.bfd_echo.specs.declared.echo.EchoResult.TheVariants.{Sent as Packets}
use Rattle.bfd_rules.specs.Names.{named}

-- all outputs so far name this session
record Names (d : ℕ) (s : Course) : Type 0 where
  all : AllByRecursion (λ o. named o ≡ d) s.outs

-- a choice between two courses
either : {d : ℕ} (b : Bool) {x y : Course} → Names d x → Names d y → Names d (if b then x else y)
either true hx hy = hx
either false hx hy = hy

changes-names : {d : ℕ} (v : Vars) {s : Course} → Names d s → Names d (changes d v s)
changes-names {d} v {s} h = record { all = changes_names d _ v s (own_name d) h.all }

sends-names : (d : ℕ) (datagram : Datagram) {s : Course} → Names d s → Names d (sends d datagram s)
sends-names d datagram {s} h = record { all = sends_names d _ datagram s (own_name d) h.all }

renews-names : {d : ℕ} (eff : ℕ) (v : Vars) {s : Course} → Names d s → Names d (renews eff v s)
unfolding renews
renews-names eff v h = record { all = h.all }

moves-names : {d : ℕ} (eff : ℕ) (v : Vars) {s : Course} → Names d s → Names d (moves d eff v s)
unfolding moves
moves-names eff v h = changes-names _ h

transmits-names : (c : Config) (poll fin : Bool) {s : Course} → Names c.discr s → Names c.discr (transmits c poll fin s)
unfolding transmits
transmits-names c poll fin h = sends-names c.discr _ record { all = h.all }

-- settling

detection-names : (c : Config) (limit eff : ℕ) {s : Course} → Names c.discr s → Names c.discr (settling.detection c limit eff s)
unfolding settling.detection
detection-names c limit eff {s} h = either (has_come limit (deadline s.vars)) (moves-names eff _ h) h

sequence-names : {d : ℕ} (limit eff : ℕ) {s : Course} → Names d s → Names d (settling.sequence limit eff s)
unfolding settling.sequence
sequence-names limit eff {s} h = either (has_come limit (seq_deadline s.vars)) (renews-names eff _ h) h

periodic_packet-names : (c : Config) (eff : ℕ) {s : Course} → Names c.discr s → Names c.discr (settling.periodic_packet c eff s)
unfolding settling.periodic_packet
periodic_packet-names c eff h = renews-names {d = c.discr} eff _ record { all = (transmits-names c _ false h).all }

periodic-names : (c : Config) (limit eff : ℕ) {s : Course} → Names c.discr s → Names c.discr (settling.periodic c limit eff s)
unfolding settling.periodic
periodic-names c limit eff {s} h = either (has_come (floor_tick limit) s.vars.tx_due && may_send c.active s.vars)
    (periodic_packet-names c eff h) h

settle-names : (c : Config) (limit eff : ℕ) {s : Course} → Names c.discr s → Names c.discr (settling.settle c limit eff s)
unfolding settling.settle
settle-names c limit eff h = periodic-names c limit eff (sequence-names limit eff (detection-names c limit eff h))

-- reception

ends_poll-names : {d : ℕ} (eff : ℕ) (packet : Control) {s : Course} → Names d s → Names d (receiving.ends_poll eff packet s)
unfolding receiving.ends_poll
ends_poll-names eff packet h = either packet.fin (renews-names eff _ h) h

kept-names : (c : Config) (eff : ℕ) (packet : Control) (seq : SeqState) {s : Course} → Names c.discr s
    → Names c.discr (receiving.kept c eff packet seq s)
unfolding receiving.kept receiving.keeps_sequence receiving.keeps_fields
kept-names c eff packet seq h = ends_poll-names eff packet (renews-names eff _ (renews-names eff _ h))

moves_state-names : (c : Config) (eff : ℕ) (packet : Control) {s : Course} → Names c.discr s
    → Names c.discr (receiving.moves_state c eff packet s)
unfolding receiving.moves_state
moves_state-names c eff packet h = moves-names eff _ h

answers-names : (c : Config) (packet : Control) {s : Course} → Names c.discr s → Names c.discr (receiving.answers c packet s)
unfolding receiving.answers
answers-names c packet h = either packet.poll record { all = (transmits-names c false true h).all } h

accepted-names : (c : Config) (eff : ℕ) (packet : Control) (seq : SeqState) {s : Course} → Names c.discr s
    → Names c.discr (receiving.accepted c eff packet seq s)
unfolding receiving.accepted
accepted-names c eff packet seq {s} h =
    let k = kept-names c eff packet seq h in
    either (is_admin_down (receiving.kept c eff packet seq s).vars.state) k (answers-names c packet (moves_state-names c eff packet k))

received_on-names : (c : Config) (eff : ℕ) (packet : Control) (judgement : Result SeqState Test) {s : Course} → Names c.discr s
    → Names c.discr (receiving.received_on c eff packet judgement s)
unfolding receiving.received_on
received_on-names c eff packet (Ok seq) h = accepted-names c eff packet seq h
received_on-names c eff packet (Err test) h = h

received-names : (c : Config) (eff ttl : ℕ) (raw : List ℕ) {s : Course} → Names c.discr s
    → Names c.discr (receiving.received c eff ttl raw s)
unfolding receiving.received
received-names c eff ttl raw h = received_on-names c eff _ _ h

-- commands and the end of an event

commanded-names : (c : Config) (eff : ℕ) (cmd : Cmd) {s : Course} → Names c.discr s → Names c.discr (commanded c eff cmd s)
unfolding commanded
commanded-names c eff cmd {s} h = either (is_some (refusal c s.vars cmd)) h (moves-names eff _ h)

extra-names : (c : Config) (eff : ℕ) {s : Course} → Names c.discr s → Names c.discr (finishing.extra c eff s)
unfolding finishing.extra
extra-names c eff {s} h =
    either (is_unannounced c.active s.mark s.vars) record { all = (transmits-names c false false h).all } h

finish-names : (c : Config) (eff : ℕ) {s : Course} → Names c.discr s → Names c.discr (finishing.finish c eff s)
unfolding finishing.finish redrawn
finish-names c eff h = record { all = (extra-names c eff h).all }

-- the Echo function

settled_by-names : (c : Config) (eff : ℕ) (result : EchoResult) (e : Echo) (f : Flow) → Names c.discr f.course
    → Names c.discr (settled_by c eff result e f).course
settled_by-names c eff Nothing e f h = h
settled_by-names c eff (Packets bytes) e f h = sends-names _ _ h
settled_by-names c eff Failed e f h = moves-names eff _ h

settled_running-names : (c : Config) (limit eff : ℕ) (echo : Option Echo) (f : Flow) → Names c.discr f.course
    → Names c.discr (settled_running c limit eff echo f).course
settled_running-names c limit eff None f h = h
settled_running-names c limit eff (Some e) f h = settled_by-names c eff _ _ f h

settles_echo-names : (c : Config) (limit eff : ℕ) (f : Flow) → Names c.discr f.course → Names c.discr (settles_echo c limit eff f).course
unfolding settles_echo
settles_echo-names c limit eff f h = settled_running-names c limit eff (echoing c f.course.vars f.echo) f h

-- a whole event

settled-names : (c : SessionConfig) (limit eff : ℕ) (f : Flow) → Names (discr_of c) f.course
    → Names (discr_of c) (settled c limit eff f).course
settled-names (PointToPoint c) limit eff f h = settles_echo-names c limit eff _ (settle-names c limit eff h)
settled-names (Initiator c) limit eff f h = record { all = initiator.settle_names c _ limit eff f.course (own_name c.discr) h.all }
settled-names (Head c) limit eff f h = record { all = tree.head_settle_names c _ limit eff f.course (own_name c.discr) h.all }
settled-names (Tail c) limit eff f h = record { all = tree.tail_settle_names c _ limit f.course (own_name c.discr) h.all }

acted-names : (c : SessionConfig) (eff : ℕ) (event : Event) (f : Flow) → Names (discr_of c) f.course
    → Names (discr_of c) (acted c eff event f).course
acted-names (PointToPoint c) eff (Packet arrival) f h = received-names c eff _ _ h
acted-names (PointToPoint c) eff (Returned sequence) f h = h
acted-names (PointToPoint c) eff (Command cmd) f h = commanded-names c eff cmd h
acted-names (PointToPoint c) eff Show f h = h
acted-names (Initiator c) eff (Packet arrival) f h = record {
  all = initiator.received_names c _ eff arrival.payload f.course (own_name c.discr) h.all;
}
acted-names (Initiator c) eff (Command cmd) f h = record { all = initiator.commanded_names c _ cmd f.course (own_name c.discr) h.all }
acted-names (Head c) eff (Command cmd) f h = record { all = tree.head_commanded_names c _ cmd f.course (own_name c.discr) h.all }
acted-names (Tail c) eff (Packet arrival) f h = record {
  all = tree.received_names c _ eff arrival.payload f.course (own_name c.discr) h.all;
}
acted-names (Tail c) eff (Command cmd) f h = record { all = tree.tail_commanded_names c _ cmd f.course (own_name c.discr) h.all }
acted-names c eff event f h = h

finished-names : (c : SessionConfig) (eff : ℕ) (f : Flow) → Names (discr_of c) f.course → Names (discr_of c) (finished c eff f).course
finished-names (PointToPoint c) eff f h = finish-names c eff h
finished-names (Initiator c) eff f h = record { all = initiator.finish_names c _ eff f.course (own_name c.discr) h.all }
finished-names (Head c) eff f h = record { all = tree.head_finish_names c _ eff f.course (own_name c.discr) h.all }
finished-names (Tail c) eff f h = h

pub tick_named : (s : Running) (limit eff : ℕ) → AllByRecursion (λ o. named o ≡ discr_of s.config) (tick_emits limit eff s)
unfolding tick_emits ticked_flow tick
tick_named s limit eff =
    (finished-names s.config eff _ (settled-names s.config limit eff (begun None s []) record { all = tt })).all

pub event_named : (s : Running) (eff : ℕ) (event : Event) → AllByRecursion (λ o. named o ≡ discr_of s.config) (emits eff event s)
unfolding emits stepped_flow step
event_named s eff event = (finished-names s.config eff _ (acted-names s.config eff event _
    (settled-names s.config eff eff (begun (Some eff) s []) record { all = tt }))).all
