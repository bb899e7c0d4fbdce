-- What was emitted before an event stays ahead of what the event emits, and changes nothing else of it; and an event
-- of a session of another kind than a point-to-point one leaves the Echo function.
use Rattle.bfd_session.proofs.Common.{◌≡◌, ◌++◌, ◌&&◌, ℕ, Bool, true, false, List, [], refl, ap, append-nil, Option, None, Some, is_some}
use Rattle.bfd_session.proofs.Common.{Result, Ok, Err, Control, Test, SeqState, Cmd, Config, Vars, floor_tick, has_come, may_send, deadline}
use Rattle.bfd_session.proofs.Common.{seq_deadline, is_admin_down, Course, is_unannounced, based, redrawn, renews, moves, transmits}
use Rattle.bfd_session.proofs.Common.{refusal}
use Rattle.bfd_session.proofs.Common.{commanded, done, Echo, EchoResult, Nothing, Sent, Failed, SessionConfig, PointToPoint, Event, Packet}
use Rattle.bfd_session.proofs.Common.{Returned, Command, Show, Running, Flow, along, settled_by, settled_running, settles_echo, echoing}
use Rattle.bfd_session.proofs.Common.{step, tick, acted, finished, begun, step_from, stepped_flow, emits, answer_of, reply, reply_from}
use Rattle.bfd_session.proofs.Common.{tick_from, ticked_flow, tick_emits, Initiator, Head, Tail, settled, Out, after, either, changes-after}
use Rattle.bfd_session.proofs.Common.{sends-after}
use Rattle.bfd_p2p.specs.Settle as settling
use Rattle.bfd_p2p.specs.Receive as receiving
use Rattle.bfd_p2p.specs.Finish as finishing
use Rattle.bfd_sbfd.proofs.Front as initiator
use Rattle.bfd_mp.proofs.HeadFront as head
use Rattle.bfd_mp.proofs.TailFront as tail

renews-after : (eff : ℕ) (v : Vars) (os : List Out) (s : Course) → renews eff v (after os s) ≡ after os (renews eff v s)
unfolding renews
renews-after eff v os s = refl

moves-after : (discr eff : ℕ) (v : Vars) (os : List Out) (s : Course) → moves discr eff v (after os s) ≡ after os (moves discr eff v s)
unfolding moves
moves-after discr eff v os s = changes-after discr _ os s

transmits-after : (c : Config) (poll fin : Bool) (os : List Out) (s : Course)
    → transmits c poll fin (after os s) ≡ after os (transmits c poll fin s)
unfolding transmits
transmits-after c poll fin os s = sends-after c.discr _ os _

-- settling

detection-after : (c : Config) (limit eff : ℕ) (os : List Out) (s : Course)
    → settling.detection c limit eff (after os s) ≡ after os (settling.detection c limit eff s)
unfolding settling.detection
detection-after c limit eff os s = either os (has_come limit (deadline s.vars)) _ s _ _
    (moves-after c.discr eff (settling.goes_silent (settling.forgets_peer s.vars)) os s) refl

sequence-after : (limit eff : ℕ) (os : List Out) (s : Course)
    → settling.sequence limit eff (after os s) ≡ after os (settling.sequence limit eff s)
unfolding settling.sequence
sequence-after limit eff os s = either os (has_come limit (seq_deadline s.vars)) _ s _ _
    (renews-after eff (settling.forgets_sequence s.vars) os s) refl

periodic_packet-after : (c : Config) (eff : ℕ) (os : List Out) (s : Course)
    → settling.periodic_packet c eff (after os s) ≡ after os (settling.periodic_packet c eff s)
unfolding settling.periodic_packet renews
periodic_packet-after c eff os s = rw transmits-after refl

periodic-after : (c : Config) (limit eff : ℕ) (os : List Out) (s : Course)
    → settling.periodic c limit eff (after os s) ≡ after os (settling.periodic c limit eff s)
unfolding settling.periodic
periodic-after c limit eff os s = either os (has_come (floor_tick limit) s.vars.tx_due && may_send c.active s.vars) _ s _ _
    (periodic_packet-after c eff os s) refl

settle-after : (c : Config) (limit eff : ℕ) (os : List Out) (s : Course)
    → settling.settle c limit eff (after os s) ≡ after os (settling.settle c limit eff s)
unfolding settling.settle
settle-after c limit eff os s = rw (detection-after, sequence-after, periodic-after) refl

-- reception

ends_poll-after : (eff : ℕ) (packet : Control) (os : List Out) (s : Course)
    → receiving.ends_poll eff packet (after os s) ≡ after os (receiving.ends_poll eff packet s)
unfolding receiving.ends_poll
ends_poll-after eff packet os s = either os packet.fin _ s _ _
    (renews-after eff (record s.vars { poll = receiving.poll_ended s.vars.poll }) os s) refl

kept-after : (c : Config) (eff : ℕ) (packet : Control) (seq : SeqState) (os : List Out) (s : Course)
    → receiving.kept c eff packet seq (after os s) ≡ after os (receiving.kept c eff packet seq s)
unfolding receiving.kept receiving.keeps_sequence receiving.keeps_fields renews
kept-after c eff packet seq os s = ends_poll-after eff packet os _

moves_state-after : (c : Config) (eff : ℕ) (packet : Control) (os : List Out) (s : Course)
    → receiving.moves_state c eff packet (after os s) ≡ after os (receiving.moves_state c eff packet s)
unfolding receiving.moves_state
moves_state-after c eff packet os s = moves-after c.discr eff _ os s

answered-after : (c : Config) (os : List Out) (s : Course) →
    (let sent : Course = transmits c false true (after os s) in record sent { mark = record s.mark { answered = true } })
    ≡ after os (let sent : Course = transmits c false true s in record sent { mark = record s.mark { answered = true } })
answered-after c os s = rw transmits-after refl

answers-after : (c : Config) (packet : Control) (os : List Out) (s : Course)
    → receiving.answers c packet (after os s) ≡ after os (receiving.answers c packet s)
unfolding receiving.answers
answers-after c packet os s = either os packet.poll _ s _ _ (answered-after c os s) refl

machine-after : (c : Config) (eff : ℕ) (packet : Control) (os : List Out) (s : Course) →
    receiving.answers c packet (receiving.moves_state c eff packet (after os s))
    ≡ after os (receiving.answers c packet (receiving.moves_state c eff packet s))
machine-after c eff packet os s = rw (moves_state-after, answers-after) refl

accepted-after : (c : Config) (eff : ℕ) (packet : Control) (seq : SeqState) (os : List Out) (s : Course)
    → receiving.accepted c eff packet seq (after os s) ≡ after os (receiving.accepted c eff packet seq s)
unfolding receiving.accepted
accepted-after c eff packet seq os s =
    let t : Course = receiving.kept c eff packet seq s in
    rw kept-after (either os (is_admin_down t.vars.state) t _ _ _ refl (machine-after c eff packet os t))

received_on-after : (c : Config) (eff : ℕ) (packet : Control) (judgement : Result SeqState Test) (os : List Out) (s : Course) →
    receiving.received_on c eff packet judgement (after os s) ≡ after os (receiving.received_on c eff packet judgement s)
unfolding receiving.received_on
received_on-after c eff packet (Ok seq) os s = accepted-after c eff packet seq os s
received_on-after c eff packet (Err test) os s = refl

received-after : (c : Config) (eff ttl : ℕ) (raw : List ℕ) (os : List Out) (s : Course)
    → receiving.received c eff ttl raw (after os s) ≡ after os (receiving.received c eff ttl raw s)
unfolding receiving.received
received-after c eff ttl raw os s = received_on-after c eff _ _ os s

-- commands and the end of an event

commanded-after : (c : Config) (eff : ℕ) (cmd : Cmd) (os : List Out) (s : Course)
    → commanded c eff cmd (after os s) ≡ after os (commanded c eff cmd s)
unfolding commanded
commanded-after c eff cmd os s = either os (is_some (refusal c s.vars cmd)) s _ _ _ refl (moves-after c.discr eff (done c cmd s.vars) os s)

extra_packet-after : (c : Config) (eff : ℕ) (os : List Out) (s : Course)
    → based eff (transmits c false false (after os s)) ≡ after os (based eff (transmits c false false s))
extra_packet-after c eff os s = rw transmits-after refl

extra-after : (c : Config) (eff : ℕ) (os : List Out) (s : Course) → finishing.extra c eff (after os s) ≡ after os (finishing.extra c eff s)
unfolding finishing.extra
extra-after c eff os s = either os (is_unannounced c.active s.mark s.vars) _ s _ _ (extra_packet-after c eff os s) refl

finish-after : (c : Config) (eff : ℕ) (os : List Out) (s : Course)
    → finishing.finish c eff (after os s) ≡ after os (finishing.finish c eff s)
unfolding finishing.finish redrawn
finish-after c eff os s = rw extra-after refl

-- the Echo function

-- an event on its way with these outputs in front
abbrev pub ahead : List Out → Flow → Flow
ahead os f = record f { course = after os f.course }

settled_by-after : (c : Config) (eff : ℕ) (result : EchoResult) (e : Echo) (os : List Out) (f : Flow)
    → settled_by c eff result e (ahead os f) ≡ ahead os (settled_by c eff result e f)
settled_by-after c eff Nothing e os f = refl
settled_by-after c eff (Sent bytes) e os f = cc (sends-after c.discr _ os f.course)
settled_by-after c eff Failed e os f = cc (moves-after c.discr eff _ os f.course)

settled_running-after : (c : Config) (limit eff : ℕ) (echo : Option Echo) (os : List Out) (f : Flow)
    → settled_running c limit eff echo (ahead os f) ≡ ahead os (settled_running c limit eff echo f)
settled_running-after c limit eff None os f = refl
settled_running-after c limit eff (Some e) os f = settled_by-after c eff _ _ os f

settles_echo-after : (c : Config) (limit eff : ℕ) (os : List Out) (f : Flow)
    → settles_echo c limit eff (ahead os f) ≡ ahead os (settles_echo c limit eff f)
unfolding settles_echo
settles_echo-after c limit eff os f = settled_running-after c limit eff (echoing c f.course.vars f.echo) os f

-- a whole event

settled-after : (c : SessionConfig) (limit eff : ℕ) (os : List Out) (f : Flow)
    → settled c limit eff (ahead os f) ≡ ahead os (settled c limit eff f)
settled-after (PointToPoint c) limit eff os f =
    cc (settle-after c limit eff os f.course, settles_echo-after c limit eff os (along f (settling.settle c limit eff f.course)))
settled-after (Initiator c) limit eff os f = cc (initiator.settle-after c limit eff os f.course)
settled-after (Head c) limit eff os f = cc (head.settle-after c limit eff os f.course)
settled-after (Tail c) limit eff os f = cc (tail.settle-after c limit os f.course)

acted-after : (c : SessionConfig) (eff : ℕ) (event : Event) (os : List Out) (f : Flow)
    → acted c eff event (ahead os f) ≡ ahead os (acted c eff event f)
acted-after (PointToPoint c) eff (Packet arrival) os f = cc (received-after c eff _ _ os f.course)
acted-after (PointToPoint c) eff (Returned sequence) os f = refl
acted-after (PointToPoint c) eff (Command cmd) os f = cc (commanded-after c eff cmd os f.course)
acted-after (PointToPoint c) eff Show os f = refl
acted-after (Initiator c) eff (Packet arrival) os f = cc (initiator.received-after c eff _ os f.course)
acted-after (Initiator c) eff (Command cmd) os f = cc (initiator.commanded-after c cmd os f.course)
acted-after (Head c) eff (Command cmd) os f = cc (head.commanded-after c cmd os f.course)
acted-after (Tail c) eff (Packet arrival) os f = cc (tail.received-after c eff _ os f.course)
acted-after (Tail c) eff (Command cmd) os f = cc (tail.commanded-after c cmd os f.course)
acted-after c eff event os f = refl

finished-after : (c : SessionConfig) (eff : ℕ) (os : List Out) (f : Flow) → finished c eff (ahead os f) ≡ ahead os (finished c eff f)
finished-after (PointToPoint c) eff os f = cc (finish-after c eff os f.course)
finished-after (Initiator c) eff os f = cc (initiator.finish-after c eff os f.course)
finished-after (Head c) eff os f = cc (head.finish-after c eff os f.course)
finished-after (Tail c) eff os f = refl

step-after : (c : SessionConfig) (eff : ℕ) (event : Event) (os : List Out) (f : Flow)
    → step c eff event (ahead os f) ≡ ahead os (step c eff event f)
unfolding step
step-after c eff event os f = rw (settled-after, acted-after, finished-after) refl

tick-after : (c : SessionConfig) (limit eff : ℕ) (os : List Out) (f : Flow) → tick c limit eff (ahead os f) ≡ ahead os (tick c limit eff f)
unfolding tick
tick-after c limit eff os f = rw (settled-after, finished-after) refl

-- an event that began with outputs is one that began with none, with these in front

begun-after : (own : Option ℕ) (s : Running) (os : List Out) → begun own s os ≡ ahead os (begun own s [])
begun-after own s os = cc (append-nil os)

pub step-from : (s : Running) (eff : ℕ) (event : Event) (os : List Out) → step_from eff event s os ≡ ahead os (stepped_flow eff event s)
unfolding stepped_flow
step-from s eff event os = cc (begun-after (Some eff) s os, step-after s.config eff event os (begun (Some eff) s []))

pub step_vars : (s : Running) (eff : ℕ) (event : Event) (os : List Out)
    → (step_from eff event s os).course.vars ≡ (stepped_flow eff event s).course.vars
step_vars s eff event os = ap (λ f. f.course.vars) (step-from s eff event os)

pub step_echo : (s : Running) (eff : ℕ) (event : Event) (os : List Out) → (step_from eff event s os).echo ≡ (stepped_flow eff event s).echo
step_echo s eff event os = cc (step-from s eff event os)

pub step_number : (s : Running) (eff : ℕ) (event : Event) (os : List Out)
    → (step_from eff event s os).echo_next ≡ (stepped_flow eff event s).echo_next
step_number s eff event os = cc (step-from s eff event os)

pub step_outs : (s : Running) (eff : ℕ) (event : Event) (os : List Out) → (step_from eff event s os).course.outs ≡ os ++ emits eff event s
unfolding emits
step_outs s eff event os = ap (λ f. f.course.outs) (step-from s eff event os)

pub tick-from : (s : Running) (limit eff : ℕ) (os : List Out) → tick_from limit eff s os ≡ ahead os (ticked_flow limit eff s)
unfolding ticked_flow
tick-from s limit eff os = cc (begun-after None s os, tick-after s.config limit eff os (begun None s []))

pub tick_vars : (s : Running) (limit eff : ℕ) (os : List Out)
    → (tick_from limit eff s os).course.vars ≡ (ticked_flow limit eff s).course.vars
tick_vars s limit eff os = ap (λ f. f.course.vars) (tick-from s limit eff os)

pub tick_echo : (s : Running) (limit eff : ℕ) (os : List Out) → (tick_from limit eff s os).echo ≡ (ticked_flow limit eff s).echo
tick_echo s limit eff os = cc (tick-from s limit eff os)

pub tick_number : (s : Running) (limit eff : ℕ) (os : List Out) → (tick_from limit eff s os).echo_next ≡ (ticked_flow limit eff s).echo_next
tick_number s limit eff os = cc (tick-from s limit eff os)

pub tick_outs : (s : Running) (limit eff : ℕ) (os : List Out) → (tick_from limit eff s os).course.outs ≡ os ++ tick_emits limit eff s
unfolding tick_emits
tick_outs s limit eff os = ap (λ f. f.course.outs) (tick-from s limit eff os)

-- the reply is that of the event after settling, whatever was emitted before

answer_of-after : (c : SessionConfig) (event : Event) (os : List Out) (f : Flow) → answer_of c event (ahead os f) ≡ answer_of c event f
answer_of-after c (Packet arrival) os f = refl
answer_of-after (PointToPoint c) (Returned sequence) os f = refl
answer_of-after c event os f = refl

pub reply_law : (s : Running) (eff : ℕ) (event : Event) (os : List Out) → reply_from eff event s os ≡ reply eff event s
unfolding reply
reply_law s eff event os =
    cc (
      begun-after (Some eff) s os,
      settled-after s.config eff eff os (begun (Some eff) s []),
      answer_of-after s.config event os (settled s.config eff eff (begun (Some eff) s [])),
    )

-- an event of a session of another kind than a point-to-point one leaves the Echo function

-- an initiator, a head or a tail
abbrev pub IsPlainKind : SessionConfig → Type 0
IsPlainKind (PointToPoint c) = ⊥
IsPlainKind _ = Unit {0}

-- the event leaves the Echo function, and the number of the next
pub record LeavesEcho (f : Flow) (echo : Option Echo) (number : ℕ) : Type 0 where
  pub echo_kept : f.echo ≡ echo
  pub number_kept : f.echo_next ≡ number

pub step_leaves : (c : SessionConfig) (eff : ℕ) (event : Event) (f : Flow) → IsPlainKind c
    → LeavesEcho (step c eff event f) f.echo f.echo_next
unfolding step
step_leaves (PointToPoint c) eff event f kind = elim kind [ ]
step_leaves (Initiator c) eff (Packet arrival) f kind = record { echo_kept = refl; number_kept = refl }
step_leaves (Head c) eff (Packet arrival) f kind = record { echo_kept = refl; number_kept = refl }
step_leaves (Tail c) eff (Packet arrival) f kind = record { echo_kept = refl; number_kept = refl }
step_leaves c eff event f kind = record { echo_kept = refl; number_kept = refl }
