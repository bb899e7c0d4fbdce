-- What every rule of a point-to-point session keeps, but for the state machine's answer to a packet in Init or Up: a fact of a
-- session's state and its outputs which holds on where variables change and the state doesn't, where the state changes to one of the
-- allowed ones and is reported, and where a packet with the present state is sent.
use Rattle.bfd_pair.proofs.Common.{◌≡◌, ◌⊎◌, inl, inr, ◌&&◌, ℕ, not, Bool, true, false, refl, ◌∙◌, is_some, if◌then◌else◌, floor_tick}
use Rattle.bfd_pair.proofs.Common.{Control, State, AdminDown, Down, Init, Up, SeqState, is_init_or_up, Cmd, Config, Mark, Vars, may_send}
use Rattle.bfd_pair.proofs.Common.{deadline, seq_deadline, is_idle, is_admin_down, Course, course, changes, sends, enters, announces}
use Rattle.bfd_pair.proofs.Common.{is_unannounced}
use Rattle.bfd_pair.proofs.Common.{based, drawn, redrawn, renewed_state, drawn_state, transmits}
use Rattle.bfd_num.specs.Due.{has_come}
use Rattle.bfd_rules.specs.declared.commands.Cmd.TheVariants.{Disable, Enable, Reset}
use Rattle.bfd_rules.specs.Renewal.{renewed}
use Rattle.bfd_p2p.specs.Frame.{renews, moves}
use Rattle.bfd_p2p.specs.Settle as settling
use Rattle.bfd_p2p.specs.Receive as receiving
use Rattle.bfd_p2p.specs.Command.{refusal, commanded, done}
use Rattle.bfd_p2p.specs.Finish as finishing

-- the state stays, or becomes an allowed one
abbrev pub Goes : (State → Bool) → Vars → Vars → Type 0
Goes ok v w = (w.state ≡ v.state) ⊎ (ok w.state ≡ true)

goes_by : (ok : State → Bool) (v w x : Vars) → x.state ≡ w.state → Goes ok v w → Goes ok v x
goes_by ok v w x same (inl stays) = inl (cc)
goes_by ok v w x same (inr allowed) = inr (cc)

module _ (P : Course → Type 0) (ok : State → Bool)
    (still : (s : Course) (v : Vars) (m : Mark) → v.state ≡ s.vars.state → P s → P (course v m s.outs))
    (goes : (discr : ℕ) (v : Vars) (s : Course) → Goes ok s.vars v → P s → P (changes discr v s))
    (puts : (c : Config) (poll fin : Bool) (s : Course) → P s → P (transmits c poll fin s))
    (down : ok Down ≡ true) (admin_down : ok AdminDown ≡ true) where
  either : (b : Bool) {x y : Course} → P x → P y → P (if b then x else y)
  either true hx hy = hx
  either false hx hy = hy

  renews_keeps : (eff : ℕ) (v : Vars) {s : Course} → v.state ≡ s.vars.state → P s → P (renews eff v s)
  unfolding renews
  renews_keeps eff v {s} same h = still s (renewed eff s.vars v) s.mark (renewed_state eff s.vars v ∙ same) h

  pub moves_keeps : (discr eff : ℕ) (v : Vars) {s : Course} → Goes ok s.vars v → P s → P (moves discr eff v s)
  unfolding moves
  moves_keeps discr eff v {s} to h = goes discr (renewed eff s.vars v) s
      (goes_by ok s.vars v (renewed eff s.vars v) (renewed_state eff s.vars v) to) h

  silent_goes : (v : Vars) → Goes ok v (settling.goes_silent (settling.forgets_peer v))
  silent_goes v = by_state (is_init_or_up v.state)
    where
      by_state : (b : Bool) → Goes ok v (if b then enters Down 1 (settling.forgets_peer v) else settling.forgets_peer v)
      by_state true = inr down
      by_state false = inl refl

  detection_keeps : (c : Config) (limit eff : ℕ) {s : Course} → P s → P (settling.detection c limit eff s)
  unfolding settling.detection
  detection_keeps c limit eff {s} h = either (has_come limit (deadline s.vars)) (moves_keeps c.discr eff _ (silent_goes s.vars) h) h

  sequence_keeps : (limit eff : ℕ) {s : Course} → P s → P (settling.sequence limit eff s)
  unfolding settling.sequence
  sequence_keeps limit eff {s} h = either (has_come limit (seq_deadline s.vars))
      (renews_keeps eff (settling.forgets_sequence s.vars) refl h) h

  periodic_packet_keeps : (c : Config) (eff : ℕ) {s : Course} → P s → P (settling.periodic_packet c eff s)
  unfolding settling.periodic_packet transmits sends
  periodic_packet_keeps c eff {s} h =
      renews_keeps eff _ refl (still (transmits c (not (is_idle s.vars.poll)) false s) s.vars (announces s.vars s.mark) refl
      (puts c (not (is_idle s.vars.poll)) false s h))

  periodic_keeps : (c : Config) (limit eff : ℕ) {s : Course} → P s → P (settling.periodic c limit eff s)
  unfolding settling.periodic
  periodic_keeps c limit eff {s} h = either (has_come (floor_tick limit) s.vars.tx_due && may_send c.active s.vars)
      (periodic_packet_keeps c eff h) h

  pub settle_keeps : (c : Config) (limit eff : ℕ) (s : Course) → P s → P (settling.settle c limit eff s)
  unfolding settling.settle
  settle_keeps c limit eff s h = periodic_keeps c limit eff (sequence_keeps limit eff (detection_keeps c limit eff h))

  -- commands

  done_goes : (c : Config) (cmd : Cmd) (v : Vars) → Goes ok v (done c cmd v)
  done_goes c Disable v = inr admin_down
  done_goes c Enable v = inr down
  done_goes c Reset v = inr down
  done_goes c cmd v = inl refl

  pub commanded_keeps : (c : Config) (eff : ℕ) (cmd : Cmd) (s : Course) → P s → P (commanded c eff cmd s)
  unfolding commanded
  commanded_keeps c eff cmd s h = either (is_some (refusal c s.vars cmd)) h
      (moves_keeps c.discr eff (done c cmd s.vars) (done_goes c cmd s.vars) h)

  -- the end of an event

  based_keeps : (eff : ℕ) {s : Course} → P s → P (based eff s)
  based_keeps eff {s} h = still s (record s.vars { base = eff }) (record s.mark { moved = true }) refl h

  extra_keeps : (c : Config) (eff : ℕ) {s : Course} → P s → P (finishing.extra c eff s)
  unfolding finishing.extra
  extra_keeps c eff {s} h = either (is_unannounced c.active s.mark s.vars) (based_keeps eff (puts c false false s h)) h

  pub finish_keeps : (c : Config) (eff : ℕ) (s : Course) → P s → P (finishing.finish c eff s)
  unfolding finishing.finish redrawn
  finish_keeps c eff s h =
      let e : Course = finishing.extra c eff s in
      still e (drawn c.active e.mark e.vars) e.mark (drawn_state c.active e.mark e.vars) (extra_keeps c eff h)

  -- packets

  pub kept_keeps : (c : Config) (eff : ℕ) (packet : Control) (seq : SeqState) {s : Course} → P s → P (receiving.kept c eff packet seq s)
  unfolding receiving.kept receiving.ends_poll receiving.keeps_fields receiving.keeps_sequence
  kept_keeps c eff packet seq h =
      let fields = renews_keeps eff _ refl (renews_keeps eff _ refl h) in
      either packet.fin (renews_keeps eff _ refl fields) fields

  answers_keeps : (c : Config) (packet : Control) {s : Course} → P s → P (receiving.answers c packet s)
  unfolding receiving.answers
  answers_keeps c packet {s} h =
      let sent : Course = transmits c false true s in
      either packet.poll (still sent sent.vars (record s.mark { answered = true }) refl (puts c false true s h)) h

  -- a packet in AdminDown or Down leads to Init or Down alone
  machine_goes : ok Init ≡ true → (mine received : State) (v : Vars) → v.state ≡ mine → is_init_or_up received ≡ false
      → Goes ok v (receiving.machine mine received v)
  machine_goes init Down Down v is low = inr init
  machine_goes init Down AdminDown v is low = inl refl
  machine_goes init Init Down v is low = inl refl
  machine_goes init Init AdminDown v is low = inr down
  machine_goes init Up Down v is low = inr down
  machine_goes init Up AdminDown v is low = inr down
  machine_goes init AdminDown received v is low = inl refl
  machine_goes init mine received v is low = cc

  pub low_keeps : ok Init ≡ true → (c : Config) (eff : ℕ) (packet : Control) (seq : SeqState) {s : Course}
      → is_init_or_up packet.state ≡ false → P s → P (receiving.accepted c eff packet seq s)
  unfolding receiving.accepted receiving.moves_state
  low_keeps init c eff packet seq {s} low h =
      let t : Course = receiving.kept c eff packet seq s in
      let at : P t = kept_keeps c eff packet seq h in
      either (is_admin_down t.vars.state) {x = t} at
      (answers_keeps c packet (moves_keeps c.discr eff _ (machine_goes init t.vars.state packet.state t.vars refl low) at))
