-- An own event keeps a session sound.
use Rattle.bfd_session.proofs.Common.{◌≡◌, ◌<◌, ◌≤◌, ◌==◌, ◌||◌, ◌&&◌, not, ℕ, Bool, true, false, refl, Option, None, Some, is_some}
use Rattle.bfd_session.proofs.Common.{is_none, IsSome, IfSome, List, [], length, Result, Ok, Err, arith, if◌then◌else◌, cond, common_steps}
use Rattle.bfd_session.proofs.Common.{nat_tests, nat_le, unwrap_or, slice_index, Port, Control, State, Down, Init, Up, Test, Short, Version}
use Rattle.bfd_session.proofs.Common.{LengthMin, LengthOver, DetectMult, SeqState, fields_of, first_failing, header_fails, moment_bound}
use Rattle.bfd_session.proofs.Common.{Cmd, Config, Vars, is_admin_down, poll_renewed, used_renewed, demand_renewed, renewed, Course, sends}
use Rattle.bfd_session.proofs.Common.{IsPlain, IsPlace, HasPeerMult, IsSteady, is_interval, renews, moves, transmits, key_place}
use Rattle.bfd_session.proofs.Common.{is_wrong_kind, is_out_of_range, refusal, path_done, demand_done, done, commanded, HeadConfig, Echo}
use Rattle.bfd_session.proofs.Common.{HasMoments, SessionConfig, PointToPoint, Event, Packet, Returned, Command, Show, Running, Flow}
use Rattle.bfd_session.proofs.Common.{left_by}
use Rattle.bfd_session.proofs.Common.{echoing, back_to, CanTake, HasSize, step, acted, begun, next, stepped_flow, Initiator, Head, Tail}
use Rattle.bfd_session.proofs.Common.{option_map, KeyChain, place_of, no_key, returned_moments}
use Rattle.std.proofs.lemmas.List.Quantifiers.{position-Some}
use Rattle.bfd_packet.specs.declared.control.State.TheVariants.{AdminDown}
use Rattle.bfd_packet.specs.declared.keys.Key.{Key}
use Rattle.bfd_rules.specs.declared.commands.Cmd.TheVariants.{Disable, Enable, Reset, Path, Tx, Rx, Mult, Demand, EchoEvery, Key as KeyOf}
use Rattle.bfd_rules.specs.declared.commands.Refusal.{Refusal}
use Rattle.bfd_p2p.specs.Receive as receiving
use Rattle.bfd_sbfd.specs.declared.config.InitiatorConfig.{InitiatorConfig}
use Rattle.bfd_sbfd.specs.Sound.{IsInitiatorSteady, IsInitiatorSound}
use Rattle.bfd_sbfd.proofs.Soundness as initiator
use Rattle.bfd_mp.specs.declared.config.TailConfig.{TailConfig}
use Rattle.bfd_mp.specs.Sound.{IsHeadSteady, IsHeadSound, IsTailSound}
use Rattle.bfd_mp.proofs.Soundness as tree
use Rattle.bfd_session.specs.Step as session
use Rattle.bfd_session.proofs.Front.{LeavesEcho, step_leaves}
use Rattle.bfd_session.proofs.Soundness.{IsPointSteady, poll_plain, used_plain, demand_plain, enters_plain, renews_steady, moves_steady}
use Rattle.bfd_session.proofs.Soundness.{choice_steady, echoing_moments, point_settled_steady, point_finished_sound}

-- nothing found: the first of the rest isn't
found_none : {X : Type 0} → (b : Bool) (x : X) (o : Option X) → cond b (Some x) o ≡ None → (b ≡ false) × (o ≡ None)
found_none true x o h = cc
found_none false x o h = (refl, h)

-- renewal of plain variables

renews_plain : {c : Config} {eff : ℕ} {v : Vars} (s : Course) → eff < moment_bound → IsPlain c v → IsPlain c (renews eff v s).vars
unfolding renews renewed
renews_plain s h plain = demand_plain s.vars h (used_plain (poll_plain s.vars plain))

poll_heard : (before v : Vars) → IsSome v.heard → IsSome (poll_renewed before v).heard
unfolding poll_renewed
poll_heard before v h = grind (arith, common_steps)

some_mapped : (eff : ℕ) (o : Option ℕ) → IsSome o → IsSome (option_map (λ _. eff) o)
some_mapped eff None h = cc
some_mapped eff (Some x) h = refl

demand_heard : (eff : ℕ) (before v : Vars) → IsSome v.heard → IsSome (demand_renewed eff before v).heard
unfolding demand_renewed
demand_heard eff before v h = grind (arith, common_steps, some_mapped)

renews_heard : (eff : ℕ) (v : Vars) (s : Course) → IsSome v.heard → IsSome (renews eff v s).vars.heard
unfolding renews renewed used_renewed
renews_heard eff v s h = demand_heard eff s.vars _ (poll_heard s.vars v h)

-- reception

sequenced_plain : {c : Config} {eff : ℕ} (seq : SeqState) {v : Vars} (b : Bool) → eff < moment_bound → IsPlain c v
    → IsPlain c (record v { seq = seq; seq_heard = if b then Some eff else v.seq_heard })
sequenced_plain seq b h plain = grind (arith, common_steps)

-- a packet that is kept: sound variables, and it was heard
record Taken (c : Config) (s : Course) : Type 0 where
  steady : IsSteady c s.vars
  heard : IsSome s.vars.heard

-- the numbers of a packet that the header tests pass
record Fits (packet : Control) : Type 0 where
  sized : receiving.IsSized packet
  mult : 0 < packet.mult

fields_plain : (c : Config) (eff : ℕ) (packet : Control) (v : Vars) → eff < moment_bound → Fits packet → IsPlain c v → IsPlain c (record v {
  remote_discr = packet.my;
  remote_state = packet.state;
  remote_demand = packet.demand;
  remote_min_rx = packet.min_rx;
  remote_min_echo = packet.min_echo;
  remote_mult = packet.mult;
  remote_tx = packet.min_tx;
  heard = Some eff;
})
fields_plain c eff packet v h fits plain = grind (arith, common_steps)

keeps_fields_taken : (c : Config) (eff : ℕ) (packet : Control) (s : Course) → eff < moment_bound → Fits packet → IsPlain c s.vars
    → Taken c (receiving.keeps_fields eff packet s)
unfolding receiving.keeps_fields
keeps_fields_taken c eff packet s h fits plain = record {
  steady = renews_steady s h (fields_plain c eff packet s.vars h fits plain)
      (record { heard_mult = λ _. fits.mult; seq_mult = λ _. fits.mult });
  heard = renews_heard eff _ s refl;
}

ended_plain : {c : Config} {v : Vars} → IsPlain c v → IsPlain c (record v { poll = receiving.poll_ended v.poll })
ended_plain plain = grind (arith, common_steps)

choice_taken : {c : Config} (b : Bool) {x y : Course} → Taken c x → Taken c y → Taken c (if b then x else y)
choice_taken true hx hy = hx
choice_taken false hx hy = hy

ends_poll_taken : {c : Config} {eff : ℕ} (packet : Control) {s : Course} → eff < moment_bound → Taken c s
    → Taken c (receiving.ends_poll eff packet s)
unfolding receiving.ends_poll
ends_poll_taken {eff} packet {s} h taken =
    choice_taken packet.fin record {
      steady = renews_steady s h (ended_plain taken.steady.plain)
          (record { heard_mult = taken.steady.peer.heard_mult; seq_mult = taken.steady.peer.seq_mult });
      heard = renews_heard eff _ s taken.heard;
    } taken

kept_taken : (c : Config) (eff : ℕ) (packet : Control) (seq : SeqState) (s : Course) → eff < moment_bound → Fits packet → IsPlain c s.vars
    → Taken c (receiving.kept c eff packet seq s)
unfolding receiving.kept receiving.keeps_sequence
kept_taken c eff packet seq s h fits plain = ends_poll_taken packet h (keeps_fields_taken c eff packet _ h fits
    (renews_plain s h (sequenced_plain seq (receiving.has_sequence c.keys) h plain)))

machine_plain : {c : Config} (own received : State) {v : Vars} → IsSome v.heard → IsPlain c v → IsPlain c (receiving.machine own received v)
machine_plain Down Down {v} heard plain = enters_plain Init _ plain.diag_below (λ _. heard) plain
machine_plain Down Init {v} heard plain = enters_plain Up _ plain.diag_below (λ _. heard) plain
machine_plain Init Init {v} heard plain = enters_plain Up _ plain.diag_below (λ _. heard) plain
machine_plain Init Up {v} heard plain = enters_plain Up _ plain.diag_below (λ _. heard) plain
machine_plain Init AdminDown heard plain = enters_plain Down 3 (omega arith) (λ _. heard) plain
machine_plain Up AdminDown heard plain = enters_plain Down 3 (omega arith) (λ _. heard) plain
machine_plain Up Down heard plain = enters_plain Down 3 (omega arith) (λ _. heard) plain
machine_plain _ _ heard plain = plain

machine_peer : (own received : State) {v : Vars} → HasPeerMult v → HasPeerMult (receiving.machine own received v)
machine_peer Down Down h = record { heard_mult = h.heard_mult; seq_mult = h.seq_mult }
machine_peer Down Init h = record { heard_mult = h.heard_mult; seq_mult = h.seq_mult }
machine_peer Init Init h = record { heard_mult = h.heard_mult; seq_mult = h.seq_mult }
machine_peer Init Up h = record { heard_mult = h.heard_mult; seq_mult = h.seq_mult }
machine_peer Init AdminDown h = record { heard_mult = h.heard_mult; seq_mult = h.seq_mult }
machine_peer Up AdminDown h = record { heard_mult = h.heard_mult; seq_mult = h.seq_mult }
machine_peer Up Down h = record { heard_mult = h.heard_mult; seq_mult = h.seq_mult }
machine_peer _ _ h = h

moves_state_steady : {c : Config} {eff : ℕ} (packet : Control) {s : Course} → eff < moment_bound → Taken c s
    → IsSteady c (receiving.moves_state c eff packet s).vars
unfolding receiving.moves_state
moves_state_steady packet {s} h taken = moves_steady s h (machine_plain s.vars.state packet.state taken.heard taken.steady.plain)
    (machine_peer s.vars.state packet.state taken.steady.peer)

seq_steady : {c : Config} (seq : SeqState) {v : Vars} → IsSteady c v → IsSteady c (record v { seq = seq })
seq_steady seq steady = grind (arith, common_steps)

answers_steady : {c : Config} (packet : Control) (s : Course) → IsSteady c s.vars → IsSteady c (receiving.answers c packet s).vars
unfolding receiving.answers transmits sends
answers_steady packet s steady = choice_steady packet.poll _ s (seq_steady _ steady) steady

accepted_steady : (c : Config) (eff : ℕ) (packet : Control) (seq : SeqState) (s : Course) → eff < moment_bound → Fits packet
    → IsPlain c s.vars
    → IsSteady c (receiving.accepted c eff packet seq s).vars
unfolding receiving.accepted
accepted_steady c eff packet seq s h fits plain =
    let taken = kept_taken c eff packet seq s h fits plain in
    choice_steady (is_admin_down (receiving.kept c eff packet seq s).vars.state) _ _ taken.steady
    (answers_steady packet _ (moves_state_steady packet h taken))

received_on_steady : (c : Config) (eff : ℕ) (packet : Control) (judgement : Result SeqState Test) (s : Course) → eff < moment_bound
    → Fits packet
    → IsSteady c s.vars → IsSteady c (receiving.received_on c eff packet judgement s).vars
unfolding receiving.received_on
received_on_steady c eff packet (Ok seq) s h fits steady = accepted_steady c eff packet seq s h fits steady.plain
received_on_steady c eff packet (Err test) s h fits steady = steady

-- the header tests leave a Detect Mult that isn't 0

not_zero : (n : ℕ) → (n == 0) ≡ false → 0 < n
not_zero n h = grind (arith, nat_tests)

some_mult : (port : Port) (payload : List ℕ) → first_failing port payload ≡ None → 0 < (fields_of payload).mult
some_mult port payload h =
    not_zero (slice_index payload 2) (found_none (header_fails DetectMult payload) _ _
    (found_none (header_fails LengthOver payload) _ _ (found_none (header_fails LengthMin payload) _ _
    (found_none (header_fails Version payload) _ _ (found_none (header_fails Short payload) _ _ h).1).1).1).1).0

-- commands

path_few : (n : ℕ) → not ((n == 0) || (n == 6) || (n == 8)) ≡ false → n < 32
path_few n h = grind (arith, nat_tests)

path_plain : {c : Config} {n : ℕ} {v : Vars} → n < 32 → IsPlain c v → IsPlain c (path_done n v)
path_plain few plain = grind (arith, common_steps)

interval_within : (n : ℕ) → not (is_interval n) ≡ false → (10000 ≤ n) × (n ≤ 60000000)
interval_within n h = grind (arith, nat_tests)

tx_plain : {c : Config} {n : ℕ} {v : Vars} → (10000 ≤ n) × (n ≤ 60000000) → IsPlain c v → IsPlain c (record v { tx = n })
tx_plain within plain = grind (arith, common_steps)

rx_plain : {c : Config} {n : ℕ} {v : Vars} → (10000 ≤ n) × (n ≤ 60000000) → IsPlain c v → IsPlain c (record v { rx = n })
rx_plain within plain = grind (arith, common_steps)

mult_within : (n : ℕ) → not (nat_le 1 n && nat_le n 255) ≡ false → (0 < n) × (n < 256)
mult_within n h = grind (arith, nat_tests)

mult_plain : {c : Config} {n : ℕ} {v : Vars} → (0 < n) × (n < 256) → IsPlain c v → IsPlain c (record v { mult = n })
mult_plain within plain = grind (arith, common_steps)

demand_done_plain : {c : Config} (on : Bool) {v : Vars} → IsPlain c v → IsPlain c (demand_done on v)
demand_done_plain on plain = grind (arith, common_steps)

echo_plain : {c : Config} (n : ℕ) {v : Vars} → not (receiving.is_single c.role) ≡ false → not ((n == 0) || is_interval n) ≡ false
    → IsPlain c v → IsPlain c (record v { echo_every = n })
echo_plain n single range plain = grind (arith, common_steps)

place_by : (keys : List Key) (id other : ℕ) (place : Option ℕ) → place_of id keys ≡ place → is_none place ≡ false
    → unwrap_or place other < length keys
place_by keys id other None is there = cc
place_by keys id other (Some place) is there = (position-Some (λ key. id == key.id) keys place no_key is).0

place_within : (keys : Option KeyChain) (id other : ℕ) → is_none (key_place keys id) ≡ false
    → IsPlace keys (unwrap_or (key_place keys id) other)
place_within None id other there = cc
place_within (Some keys) id other there = place_by keys.list id other _ refl there

key_plain : {c : Config} (place : ℕ) {v : Vars} → IsPlace c.keys place → IsPlain c v → IsPlain c (record v { sending = place })
key_plain place h plain = grind (arith, common_steps)

done_plain : {c : Config} (cmd : Cmd) {v : Vars} → is_wrong_kind c cmd ≡ false → is_out_of_range c cmd ≡ false → IsPlain c v
    → IsPlain c (done c cmd v)
done_plain Disable kind range plain = enters_plain AdminDown 7 (omega arith) (λ h. cc) plain
done_plain Enable {v} kind range plain = enters_plain Down _ plain.diag_below (λ h. cc) plain
done_plain Reset kind range plain = enters_plain Down 4 (omega arith) (λ h. cc) plain
done_plain (Path n) kind range plain = path_plain (path_few n range) plain
done_plain (Tx n) kind range plain = tx_plain (interval_within n range) plain
done_plain (Rx n) kind range plain = rx_plain (interval_within n range) plain
done_plain (Mult n) kind range plain = mult_plain (mult_within n range) plain
done_plain (Demand n) kind range plain = demand_done_plain (n == 1) plain
done_plain (EchoEvery n) kind range plain = echo_plain n kind range plain
done_plain {c} (KeyOf n) {v} kind range plain = key_plain _ (place_within c.keys n v.sending range) plain

done_peer : (c : Config) (cmd : Cmd) {v : Vars} → HasPeerMult v → HasPeerMult (done c cmd v)
done_peer c Disable h = record { heard_mult = h.heard_mult; seq_mult = h.seq_mult }
done_peer c cmd h = record { heard_mult = h.heard_mult; seq_mult = h.seq_mult }

commanded_by : {c : Config} {eff : ℕ} (cmd : Cmd) (s : Course) (o : Option Refusal) → refusal c s.vars cmd ≡ o → eff < moment_bound
    → IsSteady c s.vars → IsSteady c (if is_some o then s else moves c.discr eff (done c cmd s.vars) s).vars
commanded_by cmd s (Some refused) is h steady = steady
commanded_by {c} cmd s None is h steady =
    let after_kind = found_none (is_wrong_kind c cmd) _ _ is in
    moves_steady s h (done_plain cmd after_kind.0 (found_none (is_out_of_range c cmd) _ _ after_kind.1).0 steady.plain)
    (done_peer c cmd steady.peer)

commanded_steady : {c : Config} {eff : ℕ} (cmd : Cmd) (s : Course) → eff < moment_bound → IsSteady c s.vars
    → IsSteady c (commanded c eff cmd s).vars
unfolding commanded
commanded_steady {c} cmd s h steady = commanded_by cmd s (refusal c s.vars cmd) refl h steady

-- the whole event

back_moments : {eff : ℕ} (sequence : ℕ) (running echo : Option Echo) → eff < moment_bound → IfSome running HasMoments
    → IfSome echo HasMoments
    → IfSome (back_to eff sequence running echo) HasMoments
back_moments sequence None echo h runs moments = moments
back_moments {eff} sequence (Some e) echo h runs moments = returned_moments eff sequence e h runs

acted_steady : {c : Config} {eff : ℕ} (event : Event) {f : Flow} → eff < moment_bound → CanTake (PointToPoint c) event
    → HasSize (PointToPoint c) event
    → IsPointSteady c f → IsPointSteady c (acted (PointToPoint c) eff event f)
unfolding receiving.received
acted_steady {c} {eff} (Packet arrival) {f} h takes sized steady = record {
  vars = received_on_steady c eff (fields_of arrival.payload) _ f.course h
      (record { sized = sized; mult = some_mult arrival.port arrival.payload takes.header }) steady.vars;
  moments = steady.moments;
}
acted_steady {c} (Returned sequence) {f} h takes sized steady = record {
  vars = steady.vars;
  moments = back_moments sequence (echoing c f.course.vars f.echo) f.echo h (echoing_moments c f.course.vars f.echo steady.moments)
      steady.moments;
}
acted_steady (Command cmd) {f} h takes sized steady =
    record { vars = commanded_steady cmd f.course h steady.vars; moments = steady.moments }
acted_steady Show h takes sized steady = steady

stamped_steady : {c : Config} {eff : ℕ} {v : Vars} → eff < moment_bound → IsSteady c v → IsSteady c (record v { at = eff })
stamped_steady h steady = grind (arith, common_steps)

point_sound : {c : Config} {s : Running} {eff : ℕ} (event : Event) → eff < moment_bound → CanTake (PointToPoint c) event
    → HasSize (PointToPoint c) event
    → session.IsPointSound c s → session.IsPointSound c (left_by (step (PointToPoint c) eff event (begun (Some eff) s [])) s)
unfolding step
point_sound {c} {s} {eff} event h takes sized sound = point_finished_sound s h (acted_steady event h takes sized
    (point_settled_steady c eff (begun (Some eff) s []) h record { vars = stamped_steady h sound.vars.steady; moments = sound.moments }))

-- what an event of another kind leaves of the variables, and of the Echo function

initiator_vars : {c : InitiatorConfig} {eff : ℕ} (event : Event) (f : Flow) → eff < moment_bound → HasSize (Initiator c) event
    → IsInitiatorSteady c f.course.vars → IsInitiatorSound c (step (Initiator c) eff event f).course.vars
unfolding step
initiator_vars {c} {eff} (Packet arrival) f h sized steady = initiator.packet_sound c eff eff arrival.payload f.course h sized steady
initiator_vars {c} {eff} (Command cmd) f h sized steady = initiator.command_sound c eff eff cmd f.course h steady
initiator_vars {c} {eff} event f h sized steady = initiator.tick_sound c eff eff f.course h steady

head_vars : (c : HeadConfig) {eff : ℕ} (event : Event) (f : Flow) → eff < moment_bound
    → IsHeadSteady f.course.vars → IsHeadSound (step (Head c) eff event f).course.vars
unfolding step
head_vars c {eff} (Command cmd) f h steady = tree.head_command_sound c eff eff cmd f.course h steady
head_vars c {eff} event f h steady = tree.head_tick_sound c eff eff f.course h steady

tail_vars : {c : TailConfig} {eff : ℕ} (event : Event) (f : Flow) → eff < moment_bound → HasSize (Tail c) event
    → IsTailSound c f.course.vars → IsTailSound c (step (Tail c) eff event f).course.vars
unfolding step
tail_vars {c} {eff} (Packet arrival) f h sized sound =
    tree.received_sound c eff arrival.payload _ h sized (tree.tail_settle_sound c eff f.course sound)
tail_vars {c} {eff} (Command cmd) f h sized sound = tree.tail_commanded_sound c cmd _ (tree.tail_settle_sound c eff f.course sound)
tail_vars {c} {eff} event f h sized sound = tree.tail_settle_sound c eff f.course sound

plain_sound : (IsVars : Vars → Type 0) {s : Running} {f : Flow} → session.IsEcholess s → LeavesEcho f s.echo s.echo_next
    → IsVars f.course.vars → session.IsPlainSound IsVars (left_by f s)
plain_sound IsVars none left vars = record {
  vars = vars;
  echoless = record { none = cc; none_sent = cc };
}

sound_after : (c : SessionConfig) (s : Running) {eff : ℕ} (event : Event) → eff < moment_bound → CanTake c event → HasSize c event
    → session.sound_by c s → session.sound_by c (left_by (step c eff event (begun (Some eff) s [])) s)
sound_after (PointToPoint c) s event h takes sized sound = point_sound event h takes sized sound
sound_after (Initiator c) s {eff} event h takes sized sound =
    plain_sound (IsInitiatorSound c) sound.echoless (step_leaves (Initiator c) eff event (begun (Some eff) s []) tt)
    (initiator_vars event (begun (Some eff) s []) h sized (initiator.stamped_steady c eff _ h sound.vars.steady))
sound_after (Head c) s {eff} event h takes sized sound =
    plain_sound IsHeadSound sound.echoless (step_leaves (Head c) eff event (begun (Some eff) s []) tt)
    (head_vars c event (begun (Some eff) s []) h (tree.head_stamped_steady eff _ h sound.vars.steady))
sound_after (Tail c) s {eff} event h takes sized sound =
    plain_sound (IsTailSound c) sound.echoless (step_leaves (Tail c) eff event (begun (Some eff) s []) tt)
    (tail_vars event (begun (Some eff) s []) h sized (tree.tail_stamped_sound c eff _ h sound.vars))

pub own_sound : (s : Running) (eff : ℕ) (event : Event) → eff < moment_bound → CanTake s.config event → HasSize s.config event
    → session.IsSound s → session.IsSound (next eff event s)
unfolding stepped_flow
own_sound s eff event h takes sized sound = sound_after s.config s event h takes sized sound
