-- A session outside Init and Up that handles no packet stays there, and sends no packet in Init or Up.
use Rattle.bfd_pair.proofs.Common.{◌≡◌, inl, inr, ◌++◌, not, ℕ, Bool, true, false, List, [], refl, ap, ◌∙◌, Option, None, Some, Result, Ok}
use Rattle.bfd_pair.proofs.Common.{Err, if◌then◌else◌, not-true, Arrival, Control, State, Init, Up, Test, SeqState, fields_of}
use Rattle.bfd_pair.proofs.Common.{is_init_or_up, Cmd, Config, Out, Mark, Vars, is_admin_down, is_up, Course, course, changes, sends}
use Rattle.bfd_pair.proofs.Common.{changed_between}
use Rattle.bfd_pair.proofs.Common.{transmits, packet_bytes, packet_of, SessionConfig, PointToPoint, Packet, Command, Running, Flow, begun}
use Rattle.bfd_pair.proofs.Common.{settled}
use Rattle.bfd_pair.proofs.Common.{acted, finished, step, step_from, stepped_flow, tick, tick_from, ticked_flow, next, emits, tick_next}
use Rattle.bfd_pair.proofs.Common.{tick_emits, reply, answer_of, answer_to_packet, packets_among, renewed_state, Echo, Answer, Handled}
use Rattle.std.proofs.Math.Bool.{and-false}
use Rattle.bfd_auth.specs.Sealed.{sealed, section_of}
use Rattle.bfd_packet.specs.declared.discard.Test.TheVariants.{AdminDown as DiscardAdminDown}
use Rattle.bfd_packet.specs.KeyChain.{KeyChain, key_at}
use Rattle.bfd_packet.proofs.RoundTrip.{reads_state}
use Rattle.bfd_rules.specs.declared.verdict.Verdict.TheVariants.{Accepted, Dropped}
use Rattle.bfd_p2p.specs.Frame.{renews}
use Rattle.bfd_p2p.specs.Receive as receiving
use Rattle.bfd_p2p.specs.Receive.{is_single}
use Rattle.bfd_session.specs.Echoing.{echoing, settles_echo}
use Rattle.bfd_pair.proofs.Points.{IsPoint}
use Rattle.bfd_pair.proofs.Packets.{Each, each_append, packets-append, reported_packets}
use Rattle.bfd_pair.proofs.Rules.{Goes, settle_keeps, commanded_keeps, finish_keeps, kept_keeps}

-- the packet isn't in Init or Up
abbrev pub IsCold : List ℕ → Type 0
IsCold bytes = is_init_or_up (fields_of bytes).state ≡ false

-- the session isn't in Init or Up, and has emitted no packet in either
pub record Cold (s : Course) : Type 0 where
  pub state : is_init_or_up s.vars.state ≡ false
  pub packets : Each IsCold (packets_among s.outs)

abbrev cold_state : State → Bool
cold_state state = not (is_init_or_up state)

bytes_state : (keys : Option KeyChain) (with : ℕ) (seq : SeqState) (packet : Control)
    → (fields_of (packet_bytes keys with seq packet)).state ≡ packet.state
unfolding sealed
bytes_state None with seq packet = reads_state packet []
bytes_state (Some keys) with seq packet = reads_state packet (section_of keys.kind (key_at with keys.list) seq.xmit packet)

-- what the rules ask

cold_still : (s : Course) (v : Vars) (m : Mark) → v.state ≡ s.vars.state → Cold s → Cold (course v m s.outs)
cold_still s v m same h = record { state = cc; packets = h.packets }

cold_to : (v w : Vars) → is_init_or_up v.state ≡ false → Goes cold_state v w → is_init_or_up w.state ≡ false
cold_to v w low (inl same) = cc
cold_to v w low (inr allowed) = not-true (is_init_or_up w.state) allowed

put_cold : (xs ys : List Out) → Each IsCold (packets_among xs) → Each IsCold (packets_among ys) → Each IsCold (packets_among (xs ++ ys))
put_cold xs ys h k = rw (packets-append xs ys) (each_append IsCold (packets_among xs) (packets_among ys) h k)

cold_goes : (discr : ℕ) (v : Vars) (s : Course) → Goes cold_state s.vars v → Cold s → Cold (changes discr v s)
unfolding changes
cold_goes discr v s to h = record {
  state = cold_to s.vars v h.state to;
  packets = put_cold s.outs (changed_between discr s.vars v) h.packets (rw (reported_packets discr s.vars v) tt);
}

cold_puts : (c : Config) (poll fin : Bool) (s : Course) → Cold s → Cold (transmits c poll fin s)
unfolding transmits sends
cold_puts c poll fin s h = record {
  state = h.state;
  packets = put_cold s.outs _ h.packets (cc (bytes_state c.keys s.vars.sending s.vars.seq (packet_of c s.vars poll fin)), tt);
}

-- whole events

begun_cold : (own : Option ℕ) (s : Running) → is_init_or_up s.vars.state ≡ false → Cold (begun own s []).course
begun_cold None s low = record { state = low; packets = tt }
begun_cold (Some eff) s low = record { state = low; packets = tt }

-- outside Up no Echo function runs

not_up : (state : State) → is_init_or_up state ≡ false → is_up state ≡ false
not_up Init low = cc
not_up Up low = cc
not_up state low = refl

no_echo : (c : Config) (v : Vars) (echo : Option Echo) → is_init_or_up v.state ≡ false → echoing c v echo ≡ None
no_echo c v echo low = rw (not_up v.state low, and-false (is_single c.role)) refl

echo_cold : (c : Config) (limit eff : ℕ) (f : Flow) → Cold f.course → Cold (settles_echo c limit eff f).course
unfolding settles_echo
echo_cold c limit eff f h = rw (no_echo c f.course.vars f.echo h.state) h

settled_cold : (c : SessionConfig) (limit eff : ℕ) (f : Flow) → IsPoint c → Cold f.course → Cold (settled c limit eff f).course
settled_cold (PointToPoint c) limit eff f p h = echo_cold c limit eff _
    (settle_keeps Cold cold_state cold_still cold_goes cold_puts refl refl c _ eff _ h)
settled_cold c limit eff f p h = absurd p

finished_cold : (c : SessionConfig) (eff : ℕ) (f : Flow) → IsPoint c → Cold f.course → Cold (finished c eff f).course
finished_cold (PointToPoint c) eff f p h = finish_keeps Cold cold_state cold_still cold_goes cold_puts refl refl c eff _ h
finished_cold c eff f p h = absurd p

ordered_cold : (c : SessionConfig) (eff : ℕ) (cmd : Cmd) (f : Flow) → IsPoint c → Cold f.course → Cold (acted c eff (Command cmd) f).course
ordered_cold (PointToPoint c) eff cmd f p h = commanded_keeps Cold cold_state cold_still cold_goes cold_puts refl refl c eff cmd _ h
ordered_cold c eff cmd f p h = absurd p

tick_cold : (s : Running) (limit eff : ℕ) → IsPoint s.config → is_init_or_up s.vars.state ≡ false → Cold (tick_from limit eff s []).course
unfolding tick
tick_cold s limit eff p low = finished_cold s.config eff _ p (settled_cold s.config limit eff _ p (begun_cold None s low))

pub tick_state : (s : Running) (limit eff : ℕ) → IsPoint s.config → is_init_or_up s.vars.state ≡ false
    → is_init_or_up (tick_next limit eff s).vars.state ≡ false
unfolding ticked_flow
tick_state s limit eff p low = (tick_cold s limit eff p low).state

pub tick_packets : (s : Running) (limit eff : ℕ) → IsPoint s.config → is_init_or_up s.vars.state ≡ false
    → Each IsCold (packets_among (tick_emits limit eff s))
unfolding tick_emits ticked_flow
tick_packets s limit eff p low = (tick_cold s limit eff p low).packets

order_cold : (s : Running) (eff : ℕ) (cmd : Cmd) → IsPoint s.config → is_init_or_up s.vars.state ≡ false
    → Cold (step_from eff (Command cmd) s []).course
unfolding step
order_cold s eff cmd p low = finished_cold s.config eff _ p
    (ordered_cold s.config eff cmd _ p (settled_cold s.config eff eff _ p (begun_cold (Some eff) s low)))

pub order_state : (s : Running) (eff : ℕ) (cmd : Cmd) → IsPoint s.config → is_init_or_up s.vars.state ≡ false
    → is_init_or_up (next eff (Command cmd) s).vars.state ≡ false
unfolding stepped_flow
order_state s eff cmd p low = (order_cold s eff cmd p low).state

pub order_packets : (s : Running) (eff : ℕ) (cmd : Cmd) → IsPoint s.config → is_init_or_up s.vars.state ≡ false
    → Each IsCold (packets_among (emits eff (Command cmd) s))
unfolding emits stepped_flow
order_packets s eff cmd p low = (order_cold s eff cmd p low).packets

-- a packet that isn't handled

abbrev pub is_handled : Answer → Bool
is_handled Handled = true
is_handled _ = false

kept_state : (c : Config) (eff : ℕ) (packet : Control) (seq : SeqState) (s : Course)
    → (receiving.kept c eff packet seq s).vars.state ≡ s.vars.state
unfolding receiving.kept receiving.ends_poll receiving.keeps_fields receiving.keeps_sequence renews
kept_state c eff packet seq s = by_fin packet.fin _ _ (renewed_state eff _ _) ∙ (renewed_state eff _ _ ∙ renewed_state eff _ _)
  where
    by_fin : (b : Bool) (x y : Course) → x.vars.state ≡ y.vars.state → (if b then x else y).vars.state ≡ y.vars.state
    by_fin true x y same = same
    by_fin false x y same = refl

admin_by : (b : Bool) → is_handled (answer_to_packet (if b then Dropped DiscardAdminDown else Accepted)) ≡ false → b ≡ true
admin_by true h = refl
admin_by false h = cc

unhandled_cold : (c : Config) (eff : ℕ) (packet : Control) (judgement : Result SeqState Test) {s : Course}
    → is_handled (answer_to_packet (receiving.verdict_by s.vars.state judgement)) ≡ false → Cold s
    → Cold (receiving.received_on c eff packet judgement s)
unfolding receiving.received_on receiving.accepted
unhandled_cold c eff packet (Ok seq) {s} refused h =
    rw (ap is_admin_down (kept_state c eff packet seq s) ∙ admin_by (is_admin_down s.vars.state) refused)
    (kept_keeps Cold cold_state cold_still cold_goes cold_puts refl refl c eff packet seq h)
unhandled_cold c eff packet (Err test) refused h = h

acted_cold : (c : SessionConfig) (eff : ℕ) (arrival : Arrival) (f : Flow) → IsPoint c
    → is_handled (answer_of c (Packet arrival) f) ≡ false → Cold f.course → Cold (acted c eff (Packet arrival) f).course
unfolding receiving.received
acted_cold (PointToPoint c) eff arrival f p refused h =
    unhandled_cold c eff (fields_of arrival.payload) (receiving.judged c f.course.vars arrival.ttl arrival.payload) refused h
acted_cold c eff arrival f p refused h = absurd p

packet_cold : (s : Running) (eff : ℕ) (arrival : Arrival) → IsPoint s.config → is_handled (reply eff (Packet arrival) s) ≡ false
    → is_init_or_up s.vars.state ≡ false → Cold (step_from eff (Packet arrival) s []).course
unfolding step reply
packet_cold s eff arrival p refused low = finished_cold s.config eff _ p (acted_cold s.config eff arrival _ p refused
    (settled_cold s.config eff eff _ p (begun_cold (Some eff) s low)))

pub packet_state : (s : Running) (eff : ℕ) (arrival : Arrival) → IsPoint s.config → is_handled (reply eff (Packet arrival) s) ≡ false
    → is_init_or_up s.vars.state ≡ false → is_init_or_up (next eff (Packet arrival) s).vars.state ≡ false
unfolding stepped_flow
packet_state s eff arrival p refused low = (packet_cold s eff arrival p refused low).state

pub packet_packets : (s : Running) (eff : ℕ) (arrival : Arrival) → IsPoint s.config → is_handled (reply eff (Packet arrival) s) ≡ false
    → is_init_or_up s.vars.state ≡ false → Each IsCold (packets_among (emits eff (Packet arrival) s))
unfolding emits stepped_flow
packet_packets s eff arrival p refused low = (packet_cold s eff arrival p refused low).packets
