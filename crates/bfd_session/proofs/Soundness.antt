-- A tick keeps a session sound.
use Rattle.bfd_session.proofs.Common.{◌≡◌, ◌^◌, ◌<◌, ◌&&◌, ◌↔◌, ℕ, Bool, true, false, refl, Option, None, Some, IsSome, IsTrue, IfSome, []}
use Rattle.bfd_session.proofs.Common.{arith, rules, if◌then◌else◌, common_steps, State, Down, Up, SeqState, moment_bound, floor_tick}
use Rattle.bfd_session.proofs.Common.{next_j, has_come, Config, Mark, Vars, deadline, seq_deadline, demand_here, may_send, tx_interval}
use Rattle.bfd_session.proofs.Common.{is_idle, poll_again, poll_renewed, used_renewed, demand_renewed, renewed, Course, enters, changes}
use Rattle.bfd_session.proofs.Common.{sends, draws, drawn, is_unannounced, based, redrawn, IsPlain, IsRenewed, HasPeerMult, IsSteady}
use Rattle.bfd_session.proofs.Common.{renews}
use Rattle.bfd_session.proofs.Common.{moves, transmits, failed, Echo, EchoResult, Nothing, Sent, Failed, HasMoments, outcome, SessionConfig}
use Rattle.bfd_session.proofs.Common.{PointToPoint, Running, Flow, left_by, should_echo, echoing, interval_of, settled_by, settled_running}
use Rattle.bfd_session.proofs.Common.{settles_echo, goes_on, tick, tick_next, ticked_flow, begun, Initiator, Head, Tail, option_map, pick}
use Rattle.bfd_session.proofs.Common.{begun_moments, settled_moments}
use Rattle.bfd_rules.specs.declared.variables.Poll.{Poll}
use Rattle.bfd_rules.specs.declared.variables.Poll.TheVariants.{Idle, Wanted}
use Rattle.bfd_rules.specs.Sound.{IsSound}
use Rattle.bfd_rules.proofs.Drawing.{picked_below, stands_there}
use Rattle.bfd_p2p.specs.Settle as settling
use Rattle.bfd_p2p.specs.Finish as finishing
use Rattle.bfd_sbfd.proofs.Soundness as initiator
use Rattle.bfd_mp.proofs.Soundness as tree
use Rattle.bfd_session.specs.Step as session

-- Renewal

wanted_plain : (c : Config) (v : Vars) → IsPlain c v → IsPlain c (record v { poll = Wanted })
wanted_plain c v h = search rules

pub poll_plain : {c : Config} (before : Vars) {v : Vars} → IsPlain c v → IsPlain c (poll_renewed before v)
unfolding poll_renewed
poll_plain before h = grind (arith, common_steps, wanted_plain)

poll_peer : (before : Vars) {v : Vars} → HasPeerMult v → HasPeerMult (poll_renewed before v)
unfolding poll_renewed
poll_peer before h = grind (arith, common_steps)

pub used_plain : {c : Config} {v : Vars} → IsPlain c v → IsPlain c (used_renewed v)
unfolding used_renewed
used_plain h = grind (arith, common_steps)

used_peer : {v : Vars} → HasPeerMult v → HasPeerMult (used_renewed v)
unfolding used_renewed
used_peer h = grind (arith, common_steps)

used_renews : (v : Vars) → IsRenewed (used_renewed v)
unfolding used_renewed
used_renews v = grind (arith, common_steps)

heard_plain : {c : Config} {eff : ℕ} {v : Vars} → eff < moment_bound → IsPlain c v
    → IsPlain c (record v { heard = option_map (λ _. eff) v.heard })
heard_plain h plain = grind (arith, common_steps)

again_plain : {c : Config} {v : Vars} → IsPlain c v → IsPlain c (record v { poll = poll_again v.poll })
again_plain plain = grind (arith, common_steps)

plain_by : {c : Config} {eff : ℕ} {v : Vars} (a b : Bool) → eff < moment_bound → IsPlain c v
    → IsPlain c (if a then (if b then v else record v { heard = option_map (λ _. eff) v.heard }) else
    (if b then record v { poll = poll_again v.poll } else v))
plain_by true false h plain = heard_plain h plain
plain_by false true h plain = again_plain plain
plain_by a b h plain = plain

pub demand_plain : {c : Config} {eff : ℕ} (before : Vars) {v : Vars} → eff < moment_bound → IsPlain c v
    → IsPlain c (demand_renewed eff before v)
unfolding demand_renewed
demand_plain before {v} h plain = plain_by (demand_here before) (demand_here v) h plain

demand_peer : (eff : ℕ) (before : Vars) {v : Vars} → HasPeerMult v → HasPeerMult (demand_renewed eff before v)
unfolding demand_renewed
demand_peer eff before h = grind (arith, common_steps)

again_idle : (poll : Poll) → is_idle (poll_again poll) ≡ is_idle poll
again_idle Idle = refl
again_idle poll = refl

again_renews : {v : Vars} → IsRenewed v → IsRenewed (record v { poll = poll_again v.poll })
again_renews {v} h = record {
  settled_tx = rw (again_idle v.poll) h.settled_tx;
  tx_at_most = h.tx_at_most;
  settled_rx = rw (again_idle v.poll) h.settled_rx;
  rx_at_least = h.rx_at_least;
}

heard_renews : (eff : ℕ) {v : Vars} → IsRenewed v → IsRenewed (record v { heard = option_map (λ _. eff) v.heard })
heard_renews eff h = record { settled_tx = h.settled_tx; tx_at_most = h.tx_at_most; settled_rx = h.settled_rx; rx_at_least = h.rx_at_least }

renews_by : (eff : ℕ) {v : Vars} (a b : Bool) → IsRenewed v
    → IsRenewed (if a then (if b then v else record v { heard = option_map (λ _. eff) v.heard }) else
    (if b then record v { poll = poll_again v.poll } else v))
renews_by eff true false h = heard_renews eff h
renews_by eff false true h = again_renews h
renews_by eff a b h = h

demand_renews : (eff : ℕ) (before : Vars) {v : Vars} → IsRenewed v → IsRenewed (demand_renewed eff before v)
unfolding demand_renewed
demand_renews eff before {v} h = renews_by eff (demand_here before) (demand_here v) h

renewed_steady : {c : Config} {eff : ℕ} (before : Vars) {v : Vars} → eff < moment_bound → IsPlain c v → HasPeerMult v
    → IsSteady c (renewed eff before v)
unfolding renewed
renewed_steady {eff} before {v} h plain peer = record {
  plain = demand_plain before h (used_plain (poll_plain before plain));
  renewed = demand_renews eff before (used_renews (poll_renewed before v));
  peer = demand_peer eff before (used_peer (poll_peer before peer));
}

-- settling

pub renews_steady : {c : Config} {eff : ℕ} {v : Vars} (s : Course) → eff < moment_bound → IsPlain c v → HasPeerMult v
    → IsSteady c (renews eff v s).vars
unfolding renews
renews_steady s h plain peer = renewed_steady s.vars h plain peer

pub moves_steady : {c : Config} {eff : ℕ} {v : Vars} (s : Course) → eff < moment_bound → IsPlain c v → HasPeerMult v
    → IsSteady c (moves c.discr eff v s).vars
unfolding moves changes
moves_steady s h plain peer = renewed_steady s.vars h plain peer

pub choice_steady : {c : Config} (b : Bool) (x y : Course) → IsSteady c x.vars → IsSteady c y.vars → IsSteady c (if b then x else y).vars
choice_steady true x y hx hy = hx
choice_steady false x y hx hy = hy

silent_plain : {c : Config} {v : Vars} → IsPlain c v → IsPlain c (settling.goes_silent (settling.forgets_peer v))
silent_plain h = grind (arith, common_steps)

silent_peer : {v : Vars} → HasPeerMult v → HasPeerMult (settling.goes_silent (settling.forgets_peer v))
silent_peer h = grind (arith, common_steps)

detection_steady : {c : Config} (limit : ℕ) {eff : ℕ} (s : Course) → eff < moment_bound → IsSteady c s.vars
    → IsSteady c (settling.detection c limit eff s).vars
unfolding settling.detection
detection_steady {c} limit {eff} s h steady =
    choice_steady (has_come limit (deadline s.vars)) (moves c.discr eff (settling.goes_silent (settling.forgets_peer s.vars)) s) s
    (moves_steady s h (silent_plain steady.plain) (silent_peer steady.peer)) steady

forgotten_plain : {c : Config} {v : Vars} → IsPlain c v → IsPlain c (settling.forgets_sequence v)
forgotten_plain h = grind (arith, common_steps)

forgotten_peer : {v : Vars} → HasPeerMult v → HasPeerMult (settling.forgets_sequence v)
forgotten_peer h = grind (arith, common_steps)

sequence_steady : {c : Config} (limit : ℕ) {eff : ℕ} (s : Course) → eff < moment_bound → IsSteady c s.vars
    → IsSteady c (settling.sequence limit eff s).vars
unfolding settling.sequence
sequence_steady limit {eff} s h steady = choice_steady (has_come limit (seq_deadline s.vars))
    (renews eff (settling.forgets_sequence s.vars) s) s
    (renews_steady s h (forgotten_plain steady.plain) (forgotten_peer steady.peer)) steady

-- what a packet makes of the variables besides the sequence state

announced_plain : {c : Config} {eff : ℕ} (seq : SeqState) {v : Vars} → eff < moment_bound → IsPlain c v
    → IsPlain c (record v { seq = seq; poll = settling.poll_sent eff v.poll; base = eff })
announced_plain seq h plain = grind (arith, common_steps)

announced_peer : (eff : ℕ) (seq : SeqState) {v : Vars} → HasPeerMult v
    → HasPeerMult (record v { seq = seq; poll = settling.poll_sent eff v.poll; base = eff })
announced_peer eff seq h = grind (arith, common_steps)

periodic_packet_steady : {c : Config} {eff : ℕ} (s : Course) → eff < moment_bound → IsSteady c s.vars
    → IsSteady c (settling.periodic_packet c eff s).vars
unfolding settling.periodic_packet renews transmits sends
periodic_packet_steady {eff} s h steady = renewed_steady s.vars h (announced_plain _ h steady.plain) (announced_peer eff _ steady.peer)

periodic_steady : {c : Config} (limit : ℕ) {eff : ℕ} (s : Course) → eff < moment_bound → IsSteady c s.vars
    → IsSteady c (settling.periodic c limit eff s).vars
unfolding settling.periodic
periodic_steady {c} limit {eff} s h steady =
    choice_steady (has_come (floor_tick limit) s.vars.tx_due && may_send c.active s.vars) (settling.periodic_packet c eff s) s
    (periodic_packet_steady s h steady) steady

settle_steady : {c : Config} (limit : ℕ) {eff : ℕ} (s : Course) → eff < moment_bound → IsSteady c s.vars
    → IsSteady c (settling.settle c limit eff s).vars
unfolding settling.settle
settle_steady {c} limit {eff} s h steady = periodic_steady limit (settling.sequence limit eff (settling.detection c limit eff s)) h
    (sequence_steady limit (settling.detection c limit eff s) h (detection_steady limit s h steady))

-- the end of an event

based_steady : {c : Config} {eff : ℕ} (seq : SeqState) {v : Vars} → eff < moment_bound → IsSteady c v
    → IsSteady c (record v { seq = seq; base = eff })
based_steady seq h steady = grind (arith, common_steps)

extra_steady : {c : Config} {eff : ℕ} (s : Course) → eff < moment_bound → IsSteady c s.vars → IsSteady c (finishing.extra c eff s).vars
unfolding finishing.extra transmits sends
extra_steady {c} {eff} s h steady = choice_steady (is_unannounced c.active s.mark s.vars) (based eff (transmits c false false s)) s
    (based_steady _ h steady) steady

interval_few : {c : Config} {v : Vars} → IsSteady c v → tx_interval v < 2 ^ 32
interval_few steady = grind (arith, common_steps)

due_plain : {c : Config} {v : Vars} (due : Option ℕ) (j : ℕ) → IfSome due (λ t. t < moment_bound) → IsPlain c v
    → IsPlain c (record v { tx_due = due; j = j })
due_plain due j h plain = grind (arith, common_steps)

due_steady : {c : Config} {v : Vars} (due : Option ℕ) (j : ℕ) → IfSome due (λ t. t < moment_bound) → IsSteady c v
    → IsSteady c (record v { tx_due = due; j = j })
due_steady due j h steady = record {
  plain = due_plain due j h steady.plain;
  renewed = record {
    settled_tx = steady.renewed.settled_tx;
    tx_at_most = steady.renewed.tx_at_most;
    settled_rx = steady.renewed.settled_rx;
    rx_at_least = steady.renewed.rx_at_least;
  };
  peer = record { heard_mult = steady.peer.heard_mult; seq_mult = steady.peer.seq_mult };
}

drawn_by : {c : Config} (m : Mark) {v : Vars} (may anew : Bool) → may_send c.active v ≡ may → draws m v ≡ anew → IsSteady c v
    → IsSound c (if may
    then (if anew then record v { tx_due = Some (pick v.base (tx_interval v) v.mult v.j); j = next_j v.j } else v) else record
    v { tx_due = None })
drawn_by m {v} true true is anew steady = record {
  steady = due_steady (Some (pick v.base (tx_interval v) v.mult v.j)) (next_j v.j)
      (picked_below v (interval_few steady) steady.plain.base_below) steady;
  due = (λ _. is, λ _. refl);
}
drawn_by m {v} true false is anew steady = record { steady = steady; due = (λ _. is, λ _. stands_there m v anew) }
drawn_by m {v} false anew is _ steady = record {
  steady = due_steady None v.j tt steady;
  due = (λ h. cc, λ h. cc);
}

drawn_sound : {c : Config} (m : Mark) {v : Vars} → IsSteady c v → IsSound c (drawn c.active m v)
unfolding drawn
drawn_sound {c} m {v} steady = drawn_by m (may_send c.active v) (draws m v) refl refl steady

finish_sound : {c : Config} {eff : ℕ} (s : Course) → eff < moment_bound → IsSteady c s.vars → IsSound c (finishing.finish c eff s).vars
unfolding finishing.finish redrawn
finish_sound {c} {eff} s h steady = drawn_sound (finishing.extra c eff s).mark (extra_steady s h steady)

-- the Echo function alongside the variables: its moments are moments, also while it runs when it shouldn't

pub record IsPointSteady (c : Config) (f : Flow) : Type 0 where
  pub vars : IsSteady c f.course.vars
  pub moments : IfSome f.echo HasMoments

pub enters_plain : {c : Config} (state : State) (diag : ℕ) {v : Vars} → diag < 32 → (state ≡ Up → IsSome v.heard) → IsPlain c v
    → IsPlain c (enters state diag v)
enters_plain state diag few up plain = grind (arith, common_steps)

failed_steady : {c : Config} {eff : ℕ} (s : Course) → eff < moment_bound → IsSteady c s.vars
    → IsSteady c (moves c.discr eff (failed 2 s.vars) s).vars
failed_steady s h steady = moves_steady s h (enters_plain Down 2 (omega arith) (λ up. cc) steady.plain)
    record { heard_mult = steady.peer.heard_mult; seq_mult = steady.peer.seq_mult }

settled_by_steady : {c : Config} {eff : ℕ} (result : EchoResult) {e : Echo} {f : Flow} → eff < moment_bound → HasMoments e
    → IsPointSteady c f → IsPointSteady c (settled_by c eff result e f)
unfolding sends
settled_by_steady Nothing h moments steady = steady
settled_by_steady (Sent bytes) h moments steady = record { vars = steady.vars; moments = moments }
settled_by_steady Failed {f} h moments steady = record { vars = failed_steady f.course h steady.vars; moments = steady.moments }

settled_running_steady : {c : Config} (limit : ℕ) {eff : ℕ} (echo : Option Echo) {f : Flow} → eff < moment_bound → IfSome echo HasMoments
    → IsPointSteady c f → IsPointSteady c (settled_running c limit eff echo f)
settled_running_steady limit None h moments steady = steady
settled_running_steady {c} limit {eff} (Some e) {f} h moments steady =
    let v : Vars = f.course.vars in
    settled_by_steady (outcome limit (interval_of v) v.mult c.discr e) h (settled_moments limit eff (interval_of v) v.mult e h moments)
    steady

running_moments : (b : Bool) (echo : Option Echo) → IfSome echo HasMoments → IfSome (if b then echo else None) HasMoments
running_moments true echo moments = moments
running_moments false echo moments = tt

pub echoing_moments : (c : Config) (v : Vars) (echo : Option Echo) → IfSome echo HasMoments → IfSome (echoing c v echo) HasMoments
echoing_moments c v echo moments = running_moments (should_echo c v) echo moments

settles_echo_steady : {c : Config} (limit : ℕ) {eff : ℕ} {f : Flow} → eff < moment_bound → IsPointSteady c f
    → IsPointSteady c (settles_echo c limit eff f)
unfolding settles_echo
settles_echo_steady {c} limit {f} h steady =
    settled_running_steady limit (echoing c f.course.vars f.echo) h (echoing_moments c f.course.vars f.echo steady.moments) steady

pub point_settled_steady : (c : Config) (limit : ℕ) {eff : ℕ} (f : Flow) → eff < moment_bound → IsPointSteady c f
    → IsPointSteady c (session.settled (PointToPoint c) limit eff f)
point_settled_steady c limit f h steady = settles_echo_steady limit h
    record { vars = settle_steady limit f.course h steady.vars; moments = steady.moments }

-- at the end of an event it runs exactly when it should

turned_there : (should : Bool) (e : Echo) → IsSome (if should then Some e else None) ↔ IsTrue should
turned_there true e = (λ h. refl, λ h. refl)
turned_there false e = (λ h. cc, λ h. cc)

goes_on_moments : {eff : ℕ} (next : ℕ) (echo : Option Echo) → eff < moment_bound → IfSome echo HasMoments
    → HasMoments (goes_on eff next echo)
goes_on_moments {eff} next None h moments = begun_moments eff next h
goes_on_moments next (Some e) h moments = moments

turned_moments : (should : Bool) {e : Echo} → HasMoments e → IfSome (if should then Some e else None) HasMoments
turned_moments true moments = moments
turned_moments false moments = tt

pub point_finished_sound : {c : Config} {eff : ℕ} {f : Flow} (s : Running) → eff < moment_bound → IsPointSteady c f
    → session.IsPointSound c (left_by (session.finished (PointToPoint c) eff f) s)
point_finished_sound {c} {eff} {f} s h steady =
    let v : Vars = (finishing.finish c eff f.course).vars in record {
      vars = finish_sound f.course h steady.vars;
      echoes = turned_there (should_echo c v) (goes_on eff f.echo_next f.echo);
      moments = turned_moments (should_echo c v) (goes_on_moments f.echo_next f.echo h steady.moments);
    }

-- the whole tick

sound_after : (c : SessionConfig) (s : Running) (limit : ℕ) {eff : ℕ} → eff < moment_bound → session.sound_by c s
    → session.sound_by c (left_by (tick c limit eff (begun None s [])) s)
unfolding tick
sound_after (PointToPoint c) s limit h sound = point_finished_sound s h
    (point_settled_steady c limit (begun None s []) h record { vars = sound.vars.steady; moments = sound.moments })
sound_after (Initiator c) s limit {eff} h sound = record {
  vars = initiator.tick_sound c limit eff (begun None s []).course h sound.vars.steady;
  echoless = record { none = sound.echoless.none; none_sent = sound.echoless.none_sent };
}
sound_after (Head c) s limit {eff} h sound = record {
  vars = tree.head_tick_sound c limit eff (begun None s []).course h sound.vars.steady;
  echoless = record { none = sound.echoless.none; none_sent = sound.echoless.none_sent };
}
sound_after (Tail c) s limit h sound = record {
  vars = tree.tail_settle_sound c limit (begun None s []).course sound.vars;
  echoless = record { none = sound.echoless.none; none_sent = sound.echoless.none_sent };
}

pub tick_sound : (s : Running) (limit eff : ℕ) → eff < moment_bound → session.IsSound s → session.IsSound (tick_next limit eff s)
unfolding ticked_flow
tick_sound s limit eff h sound = sound_after s.config s limit h sound

-- the effective moment of the last own event is a moment

at_by : (c : SessionConfig) (s : Running) → session.sound_by c s → s.vars.at < moment_bound
at_by (Head c) s sound = sound.vars.steady.at_below
at_by (Tail c) s sound = sound.vars.at_below
at_by c s sound = sound.vars.steady.plain.at_below

pub at_sound : (s : Running) → session.IsSound s → s.vars.at < moment_bound
at_sound s sound = at_by s.config s sound
