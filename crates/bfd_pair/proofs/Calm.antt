-- Only a packet in Init or Up makes a session report a change to Up, or leaves one Up that wasn't.
use Rattle.bfd_pair.proofs.Common.{◌≡◌, inl, inr, ◌++◌, not, ℕ, Bool, true, false, List, [], ◌∷◌, refl, Option, None, Some, Result, Ok, Err}
use Rattle.bfd_pair.proofs.Common.{if◌then◌else◌, both_ways, not-true, or_from, or_parts, Arrival, Control, State, AdminDown, Down, Init}
use Rattle.bfd_pair.proofs.Common.{Up, Test, SeqState, fields_of, is_init_or_up, Cmd, Config, Out, Mark, Vars, is_up, same_state, Course}
use Rattle.bfd_pair.proofs.Common.{course, changes, sends, changed_between, transmits, SessionConfig, PointToPoint, Packet, Command}
use Rattle.bfd_pair.proofs.Common.{Running, Flow}
use Rattle.bfd_pair.proofs.Common.{begun}
use Rattle.bfd_pair.proofs.Common.{settled, acted, finished, step, step_from, stepped_flow, tick, tick_from, ticked_flow, next, emits}
use Rattle.bfd_pair.proofs.Common.{tick_next, tick_emits, reports_up, Changed, Sent, Echo}
use Rattle.bfd_rules.proofs.Still.{same_itself}
use Rattle.bfd_p2p.specs.Receive as receiving
use Rattle.bfd_echo.specs.declared.echo.EchoResult.{EchoResult}
use Rattle.bfd_echo.specs.declared.echo.EchoResult.TheVariants.{Nothing, Sent as EchoSent, Failed}
use Rattle.bfd_session.specs.Echoing.{settled_by, settled_running, settles_echo}
use Rattle.bfd_pair.proofs.Points.{IsPoint}
use Rattle.bfd_pair.proofs.Rules.{Goes, moves_keeps, settle_keeps, commanded_keeps, finish_keeps, low_keeps}

-- no change to Up was reported so far, and the session is Up only if it was at first
pub record Calm (was : Bool) (s : Course) : Type 0 where
  pub unreported : reports_up s.outs ≡ false
  pub low : is_up s.vars.state ≡ true → was ≡ true

abbrev low_state : State → Bool
low_state state = not (is_up state)

reports-append : (xs ys : List Out) → reports_up xs ≡ false → reports_up ys ≡ false → reports_up (xs ++ ys) ≡ false
reports-append [] ys h k = k
reports-append (Changed discr old new diag ∷ xs) ys h k =
    or_from (is_up new) (reports_up (xs ++ ys)) (or_parts (is_up new) (reports_up xs) h).0
    (reports-append xs ys (or_parts (is_up new) (reports_up xs) h).1 k)
reports-append (Sent discr datagram ∷ xs) ys h k = reports-append xs ys h k

reported_low : (discr diag : ℕ) (a b : State) → not (is_up b) ≡ true → (same : Bool)
    → reports_up (if same then [] else Changed discr a b diag ∷ []) ≡ false
reported_low discr diag a AdminDown low true = refl
reported_low discr diag a Down low true = refl
reported_low discr diag a Init low true = refl
reported_low discr diag a Up low same = cc
reported_low discr diag a b low same = refl

reported_calm : (discr : ℕ) (v w : Vars) → Goes low_state v w → reports_up (changed_between discr v w) ≡ false
reported_calm discr v w (inl same) = rw (same, same_itself v.state) refl
reported_calm discr v w (inr allowed) = reported_low discr w.diag v.state w.state allowed (same_state v.state w.state)

-- what the rules ask

calm_still : (was : Bool) (s : Course) (v : Vars) (m : Mark) → v.state ≡ s.vars.state → Calm was s → Calm was (course v m s.outs)
calm_still was s v m same h = record { unreported = h.unreported; low = λ up. h.low (cc) }

low_to : {was : Bool} (v w : Vars) → (is_up v.state ≡ true → was ≡ true) → Goes low_state v w → is_up w.state ≡ true → was ≡ true
low_to v w low (inl same) up = low (cc)
low_to v w low (inr allowed) up = absurd (both_ways (is_up w.state) (not-true (is_up w.state) allowed) up)

calm_goes : (was : Bool) (discr : ℕ) (v : Vars) (s : Course) → Goes low_state s.vars v → Calm was s → Calm was (changes discr v s)
unfolding changes
calm_goes was discr v s to h = record {
  unreported = reports-append s.outs (changed_between discr s.vars v) h.unreported (reported_calm discr s.vars v to);
  low = low_to s.vars v h.low to;
}

calm_puts : (was : Bool) (c : Config) (poll fin : Bool) (s : Course) → Calm was s → Calm was (transmits c poll fin s)
unfolding transmits sends
calm_puts was c poll fin s h = record { unreported = reports-append s.outs _ h.unreported refl; low = h.low }

-- whole events

begun_calm : (own : Option ℕ) (s : Running) → Calm (is_up s.vars.state) (begun own s []).course
begun_calm None s = record { unreported = refl; low = λ up. up }
begun_calm (Some eff) s = record { unreported = refl; low = λ up. up }

-- the Echo function sends a packet, or the session goes Down
result_calm : {was : Bool} (c : Config) (eff : ℕ) (result : EchoResult) (after : Echo) (f : Flow) → Calm was f.course
    → Calm was (settled_by c eff result after f).course
unfolding sends
result_calm c eff Nothing after f h = h
result_calm c eff (EchoSent bytes) after f h = record { unreported = reports-append f.course.outs _ h.unreported refl; low = h.low }
result_calm {was} c eff Failed after f h =
    moves_keeps (Calm was) low_state (calm_still was) (calm_goes was) (calm_puts was) refl refl c.discr eff _ (inr refl) h

running_calm : {was : Bool} (c : Config) (limit eff : ℕ) (echo : Option Echo) (f : Flow) → Calm was f.course
    → Calm was (settled_running c limit eff echo f).course
running_calm c limit eff None f h = h
running_calm c limit eff (Some e) f h = result_calm c eff _ _ f h

echo_calm : {was : Bool} (c : Config) (limit eff : ℕ) (f : Flow) → Calm was f.course → Calm was (settles_echo c limit eff f).course
unfolding settles_echo
echo_calm c limit eff f h = running_calm c limit eff _ f h

settled_calm : {was : Bool} (c : SessionConfig) (limit eff : ℕ) (f : Flow) → IsPoint c → Calm was f.course
    → Calm was (settled c limit eff f).course
settled_calm {was} (PointToPoint c) limit eff f p h = echo_calm c limit eff _
    (settle_keeps (Calm was) low_state (calm_still was) (calm_goes was) (calm_puts was) refl refl c limit eff _ h)
settled_calm c limit eff f p h = absurd p

finished_calm : {was : Bool} (c : SessionConfig) (eff : ℕ) (f : Flow) → IsPoint c → Calm was f.course → Calm was (finished c eff f).course
finished_calm {was} (PointToPoint c) eff f p h = finish_keeps (Calm was) low_state (calm_still was) (calm_goes was) (calm_puts was) refl
    refl c eff
    _ h
finished_calm c eff f p h = absurd p

ordered_calm : {was : Bool} (c : SessionConfig) (eff : ℕ) (cmd : Cmd) (f : Flow) → IsPoint c → Calm was f.course
    → Calm was (acted c eff (Command cmd) f).course
ordered_calm {was} (PointToPoint c) eff cmd f p h =
    commanded_keeps (Calm was) low_state (calm_still was) (calm_goes was) (calm_puts was) refl refl
    c eff cmd _ h
ordered_calm c eff cmd f p h = absurd p

received_calm : {was : Bool} (c : Config) (eff : ℕ) (packet : Control) (judgement : Result SeqState Test) {s : Course}
    → is_init_or_up packet.state ≡ false → Calm was s → Calm was (receiving.received_on c eff packet judgement s)
unfolding receiving.received_on
received_calm {was} c eff packet (Ok seq) low h =
    low_keeps (Calm was) low_state (calm_still was) (calm_goes was) (calm_puts was) refl refl refl c eff packet seq low h
received_calm c eff packet (Err test) low h = h

acted_calm : {was : Bool} (c : SessionConfig) (eff : ℕ) (arrival : Arrival) (f : Flow) → IsPoint c
    → is_init_or_up (fields_of arrival.payload).state ≡ false → Calm was f.course → Calm was (acted c eff (Packet arrival) f).course
unfolding receiving.received
acted_calm (PointToPoint c) eff arrival f p low h = received_calm c eff (fields_of arrival.payload) _ low h
acted_calm c eff arrival f p low h = absurd p

tick_calm : (s : Running) (limit eff : ℕ) → IsPoint s.config → Calm (is_up s.vars.state) (tick_from limit eff s []).course
unfolding tick
tick_calm s limit eff p = finished_calm s.config eff _ p (settled_calm s.config limit eff _ p (begun_calm None s))

pub tick_unreported : (s : Running) (limit eff : ℕ) → IsPoint s.config → reports_up (tick_emits limit eff s) ≡ false
unfolding tick_emits ticked_flow
tick_unreported s limit eff p = (tick_calm s limit eff p).unreported

pub tick_low : (s : Running) (limit eff : ℕ) → IsPoint s.config → is_up (tick_next limit eff s).vars.state ≡ true
    → is_up s.vars.state ≡ true
unfolding ticked_flow
tick_low s limit eff p = (tick_calm s limit eff p).low

order_calm : (s : Running) (eff : ℕ) (cmd : Cmd) → IsPoint s.config → Calm (is_up s.vars.state) (step_from eff (Command cmd) s []).course
unfolding step
order_calm s eff cmd p = finished_calm s.config eff _ p
    (ordered_calm s.config eff cmd _ p (settled_calm s.config eff eff _ p (begun_calm (Some eff) s)))

pub order_unreported : (s : Running) (eff : ℕ) (cmd : Cmd) → IsPoint s.config → reports_up (emits eff (Command cmd) s) ≡ false
unfolding emits stepped_flow
order_unreported s eff cmd p = (order_calm s eff cmd p).unreported

pub order_low : (s : Running) (eff : ℕ) (cmd : Cmd) → IsPoint s.config → is_up (next eff (Command cmd) s).vars.state ≡ true
    → is_up s.vars.state ≡ true
unfolding stepped_flow
order_low s eff cmd p = (order_calm s eff cmd p).low

packet_calm : (s : Running) (eff : ℕ) (arrival : Arrival) → IsPoint s.config → is_init_or_up (fields_of arrival.payload).state ≡ false
    → Calm (is_up s.vars.state) (step_from eff (Packet arrival) s []).course
unfolding step
packet_calm s eff arrival p low = finished_calm s.config eff _ p (acted_calm s.config eff arrival _ p low
    (settled_calm s.config eff eff _ p (begun_calm (Some eff) s)))

pub packet_unreported : (s : Running) (eff : ℕ) (arrival : Arrival) → IsPoint s.config
    → is_init_or_up (fields_of arrival.payload).state ≡ false → reports_up (emits eff (Packet arrival) s) ≡ false
unfolding emits stepped_flow
packet_unreported s eff arrival p low = (packet_calm s eff arrival p low).unreported

pub packet_low : (s : Running) (eff : ℕ) (arrival : Arrival) → IsPoint s.config
    → is_init_or_up (fields_of arrival.payload).state ≡ false → is_up (next eff (Packet arrival) s).vars.state ≡ true
    → is_up s.vars.state ≡ true
unfolding stepped_flow
packet_low s eff arrival p low = (packet_calm s eff arrival p low).low
