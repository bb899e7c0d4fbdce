-- A packet with nothing new for a session in Up changes nothing but the peer's state and when it was last heard.
use Rattle.std.proofs.Common.{◌≡◌, ℕ, Bool, true, false, refl, sym, subst, ◌∙◌, ap, if◌then◌else◌, List, None, Some, Ok, IsSome, find}
use Rattle.bfd_num.specs.Numbers.{floor_tick}
use Rattle.bfd_num.specs.Due.{has_come}
use Rattle.bfd_packet.specs.declared.control.Control.{Control}
use Rattle.bfd_packet.specs.declared.control.State.{State}
use Rattle.bfd_packet.specs.declared.control.State.TheVariants.{Up}
use Rattle.bfd_packet.specs.Layout.{fields_of}
use Rattle.bfd_rules.specs.declared.config.Config.{Config}
use Rattle.bfd_rules.specs.declared.outputs.Out.{Out}
use Rattle.bfd_rules.specs.declared.variables.Vars.{Vars}
use Rattle.bfd_rules.specs.declared.variables.Mark.{Mark}
use Rattle.bfd_rules.specs.declared.verdict.Verdict.TheVariants.{Accepted}
use Rattle.bfd_rules.specs.Quantities.{deadline, seq_deadline, may_send}
use Rattle.bfd_rules.specs.EventFrame.{Course, course, begins, stamped, redrawn}
use Rattle.bfd_rules.specs.Sound.{IsRenewed, IsSteady, IsSound}
use Rattle.bfd_rules.proofs.Still.{no_news, drawn_stands}
use Rattle.bfd_p2p.specs.Frame.{moves, renews}
use Rattle.bfd_p2p.specs.Settle.{settle, detection, sequence, periodic}
use Rattle.bfd_p2p.specs.Receive as receive
use Rattle.bfd_p2p.specs.Receive.{session_fails, session_tests}
use Rattle.bfd_p2p.specs.Finish.{finish, extra}
use Rattle.bfd_p2p.specs.Again.{IsAgain, heard_again}
use Rattle.bfd_p2p.proofs.Idle.{heard_from, moves_none, renews_fields, renews_none, renews_sequence}

-- settling with nothing due
pub settle_rests : (c : Config) (limit eff : ℕ) (s : Course) → has_come limit (deadline s.vars) ≡ false
    → has_come limit (seq_deadline s.vars) ≡ false
    → has_come (floor_tick limit) s.vars.tx_due ≡ false → settle c limit eff s ≡ s
unfolding settle detection sequence periodic
settle_rests c limit eff s late seq_late due_later = rw (late, seq_late, due_later) refl

-- the end of an event with no news and a due tick that stands
pub finish_rests : {c : Config} (eff : ℕ) {v : Vars} (os : List Out) → IsSound c v
    → finish c eff (course v (begins v) os) ≡ course v (begins v) os
unfolding finish extra redrawn
finish_rests {c} eff {v} os sound = rw (no_news v, drawn_stands c.active v sound.due) refl

-- the variables after the packet
abbrev heard_up : ℕ → Vars → Vars
heard_up eff v = record v { remote_state = Up; heard = Some eff }

-- a session in Up from which nothing but Asynchronous mode is required, and that may send
pub record IsCalm (c : Config) (v : Vars) : Type 0 where
  pub up : v.state ≡ Up
  pub plain : c.keys ≡ None
  pub demand : v.demand ≡ false
  pub remote_demand : v.remote_demand ≡ false
  pub echoless : v.echo_every ≡ 0
  pub there : IsSome v.tx_due
  pub may : may_send c.active v ≡ true

-- a packet that says what the session knows, and asks for nothing
pub record IsRepeated (eff : ℕ) (packet : Control) (v : Vars) : Type 0 where
  pub up : packet.state ≡ Up
  pub poll : packet.poll ≡ false
  pub fin : packet.fin ≡ true → receive.poll_ended v.poll ≡ v.poll
  pub known : heard_from eff packet v ≡ heard_up eff v

keeps_nothing : (c : Config) (eff : ℕ) (v : Vars) (m : Mark) (os : List Out) → c.keys ≡ None → IsRenewed v
    → receive.keeps_sequence c eff v.seq (course v m os) ≡ course v m os
unfolding receive.keeps_sequence
keeps_nothing c eff v m os plain h = rw plain (sym (renews_sequence eff v.seq v.seq_heard v m os h))

keeps_moment : (eff : ℕ) (packet : Control) (v : Vars) (m : Mark) (os : List Out) → IsRenewed v → v.demand ≡ false
    → heard_from eff packet v ≡ heard_up eff v → receive.keeps_fields eff packet (course v m os) ≡ course (heard_up eff v) m os
unfolding receive.keeps_fields
keeps_moment eff packet v m os h demand known = sym (renews_fields eff packet v m os h demand) ∙ ap (λ (w : Vars). course w m os) known

if_same : {X : Type 0} (b : Bool) {x y : X} → (b ≡ true → x ≡ y) → (if b then x else y) ≡ y
if_same true same = same refl
if_same false same = refl

-- an F that ends no Poll Sequence
ends_nothing : (eff : ℕ) (packet : Control) (v : Vars) (m : Mark) (os : List Out) → IsRenewed v
    → (packet.fin ≡ true → receive.poll_ended v.poll ≡ v.poll) → receive.ends_poll eff packet (course v m os) ≡ course v m os
unfolding receive.ends_poll
ends_nothing eff packet v m os h stands =
    if_same packet.fin
    (λ fin. ap (λ p. renews eff (record v { poll = p }) (course v m os)) (stands fin) ∙ renews_none eff (course v m os) h)

kept_again : (c : Config) (eff : ℕ) (packet : Control) (v : Vars) (m : Mark) (os : List Out) → c.keys ≡ None → IsRenewed v
    → v.demand ≡ false
    → IsRepeated eff packet v → receive.kept c eff packet v.seq (course v m os) ≡ course (heard_up eff v) m os
unfolding receive.kept
kept_again c eff packet v m os plain h demand repeated =
    let still : IsRenewed (heard_up eff v) =
    record { settled_tx = h.settled_tx; tx_at_most = h.tx_at_most; settled_rx = h.settled_rx; rx_at_least = h.rx_at_least } in
    rw (keeps_nothing c eff v m os plain h, keeps_moment eff packet v m os h demand repeated.known)
    (ends_nothing eff packet (heard_up eff v) m os still repeated.fin)

up_stands : (own received : State) (v : Vars) → own ≡ Up → received ≡ Up → receive.machine own received v ≡ v
up_stands own received v up received_up = rw (up, received_up) refl

moves_nothing : (c : Config) (eff : ℕ) (packet : Control) (v : Vars) (m : Mark) (os : List Out) → IsRenewed v → v.state ≡ Up
    → packet.state ≡ Up
    → receive.moves_state c eff packet (course v m os) ≡ course v m os
unfolding receive.moves_state
moves_nothing c eff packet v m os h up packet_up =
    ap (λ (w : Vars). moves c.discr eff w (course v m os)) (up_stands v.state packet.state v up packet_up)
    ∙ moves_none c.discr eff (course v m os) h

accepted_again : (c : Config) (eff : ℕ) (packet : Control) (v : Vars) (m : Mark) (os : List Out) → IsRenewed v → IsCalm c v
    → IsRepeated eff packet v → receive.accepted c eff packet v.seq (course v m os) ≡ course (heard_up eff v) m os
unfolding receive.accepted receive.answers
accepted_again c eff packet v m os h calm repeated =
    let w : Vars = heard_up eff v in
    let renewed : IsRenewed w =
    record { settled_tx = h.settled_tx; tx_at_most = h.tx_at_most; settled_rx = h.settled_rx; rx_at_least = h.rx_at_least } in
    rw (
      kept_again c eff packet v m os calm.plain h calm.demand repeated,
      moves_nothing c eff packet w m os renewed calm.up repeated.up,
      repeated.poll,
      calm.up,
    ) refl

may_again : (active : Bool) (eff : ℕ) (v : Vars) → v.remote_demand ≡ false → may_send active (heard_again eff v) ≡ may_send active v
may_again active eff v off = rw off refl

judged_plain : (c : Config) (v : Vars) (ttl : ℕ) (raw : List ℕ) → c.keys ≡ None
    → find (session_fails c ttl (fields_of raw)) session_tests ≡ None
    → receive.judged c v ttl raw ≡ Ok v.seq
judged_plain c v ttl raw plain passes = cc (passes, ap (λ k. receive.authenticated k v.seq (fields_of raw) raw) plain)

received_again : (c : Config) (eff ttl : ℕ) (raw : List ℕ) (v : Vars) (m : Mark) (os : List Out) → IsRenewed v → IsCalm c v
    → find (session_fails c ttl (fields_of raw)) session_tests ≡ None → IsRepeated eff (fields_of raw) v
    → receive.received c eff ttl raw (course v m os) ≡ course (heard_up eff v) m os
unfolding receive.received receive.received_on
received_again c eff ttl raw v m os h calm passes repeated =
    rw (judged_plain c v ttl raw calm.plain passes) (accepted_again c eff (fields_of raw) v m os h calm repeated)

verdict_again : (c : Config) (ttl : ℕ) (raw : List ℕ) (v : Vars) → IsCalm c v
    → find (session_fails c ttl (fields_of raw)) session_tests ≡ None
    → receive.verdict_on c ttl raw v ≡ Accepted
verdict_again c ttl raw v calm passes = rw (judged_plain c v ttl raw calm.plain passes, calm.up) refl

is_again : (c : Config) (eff ttl : ℕ) (raw : List ℕ) (v : Vars) → IsSteady c (heard_again eff v) → IsRenewed v → IsCalm c v
    → find (session_fails c ttl (fields_of raw)) session_tests ≡ None → IsRepeated eff (fields_of raw) v
    → has_come eff (deadline v) ≡ false → has_come eff (seq_deadline v) ≡ false → has_come (floor_tick eff) v.tx_due ≡ false
    → IsAgain c eff ttl raw v
is_again c eff ttl raw v steady h calm passes repeated late seq_late due_later =
    let w : Vars = stamped (Some eff) v in
    let renewed : IsRenewed w =
    record { settled_tx = h.settled_tx; tx_at_most = h.tx_at_most; settled_rx = h.settled_rx; rx_at_least = h.rx_at_least } in
    let calm_still : IsCalm c w =
    record {
      up = calm.up;
      plain = calm.plain;
      demand = calm.demand;
      remote_demand = calm.remote_demand;
      echoless = calm.echoless;
      there = calm.there;
      may = calm.may;
    } in
    let repeated_still : IsRepeated eff (fields_of raw) w =
    record { up = repeated.up; poll = repeated.poll; fin = repeated.fin; known = ap (λ (x : Vars). record x { at = eff }) repeated.known }
    in
    let sound : IsSound c (heard_again eff v) = record {
      steady = steady;
      due = (λ _. may_again c.active eff v calm.remote_demand ∙ calm.may, λ _. calm.there);
    } in
    record {
      settled = λ m os. settle_rests c eff eff (course w m os) late seq_late due_later;
      received = λ m os. received_again c eff ttl raw w m os renewed calm_still passes repeated_still;
      verdict = verdict_again c ttl raw w calm_still passes;
      finished = λ os. finish_rests eff os sound;
      sound = sound;
      echoless = calm.echoless;
    }

-- the same by what the code looks at
pub announces_nothing : (c : Config) (eff ttl : ℕ) (raw : List ℕ) (packet : Control) (v : Vars) → packet ≡ fields_of raw → IsSteady c v
    → v.state ≡ Up → c.keys ≡ None → v.demand ≡ false → v.remote_demand ≡ false → v.echo_every ≡ 0 → IsSome v.tx_due
    → may_send c.active v ≡ true
    → packet.state ≡ Up → packet.poll ≡ false → (packet.fin ≡ true → receive.poll_ended v.poll ≡ v.poll) → packet.my ≡ v.remote_discr
    → packet.demand ≡ v.remote_demand → packet.min_rx ≡ v.remote_min_rx → packet.min_echo ≡ v.remote_min_echo
    → packet.mult ≡ v.remote_mult → packet.min_tx ≡ v.remote_tx → find (session_fails c ttl packet) session_tests ≡ None
    → has_come eff (deadline v) ≡ false → has_come eff (seq_deadline v) ≡ false → has_come (floor_tick eff) v.tx_due ≡ false
    → IsSteady c (heard_again eff v) → IsAgain c eff ttl raw v
announces_nothing c eff ttl raw packet v is before up plain demand remote_demand echoless there may packet_up poll fin my asks rx echo mult
    tx
    passes late seq_late due_later steady =
    let known : heard_from eff packet v ≡ heard_up eff v = rw (my, packet_up, asks, rx, echo, mult, tx) refl in
    let calm : IsCalm c v = record {
      up = up;
      plain = plain;
      demand = demand;
      remote_demand = remote_demand;
      echoless = echoless;
      there = there;
      may = may;
    } in
    let repeated : IsRepeated eff packet v = record { up = packet_up; poll = poll; fin = fin; known = known } in
    is_again c eff ttl raw v steady before.renewed calm
    (subst (λ (p : Control). find (session_fails c ttl p) session_tests ≡ None) is passes)
    (subst (λ (p : Control). IsRepeated eff p v) is repeated) late seq_late due_later
