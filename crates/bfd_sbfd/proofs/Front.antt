-- What was emitted before stays ahead of what an initiator's rules emit, and changes nothing else of them.
use Rattle.bfd_sbfd.proofs.Common.{◌≡◌, ◌&&◌, ℕ, true, List, refl, is_some, Control, fields_of, floor_tick, has_come, Cmd, Out, Vars}
use Rattle.bfd_sbfd.proofs.Common.{may_send, is_admin_down, Course, is_unannounced, based, redrawn, InitiatorConfig, deadline, moves}
use Rattle.bfd_sbfd.proofs.Common.{transmits}
use Rattle.bfd_sbfd.proofs.Common.{refusal, commanded, done, after, either, changes-after, sends-after}
use Rattle.bfd_sbfd.specs.Settle as settling
use Rattle.bfd_sbfd.specs.Receive as receiving
use Rattle.bfd_sbfd.specs.Finish as finishing

moves-after : (discr : ℕ) (v : Vars) (os : List Out) (s : Course) → moves discr v (after os s) ≡ after os (moves discr v s)
unfolding moves
moves-after discr v os s = changes-after discr _ os s

transmits-after : (c : InitiatorConfig) (os : List Out) (s : Course) → transmits c (after os s) ≡ after os (transmits c s)
unfolding transmits
transmits-after c os s = sends-after c.discr _ os s

-- settling

detection-after : (c : InitiatorConfig) (limit : ℕ) (os : List Out) (s : Course)
    → settling.detection c limit (after os s) ≡ after os (settling.detection c limit s)
unfolding settling.detection
detection-after c limit os s = either os (has_come limit (deadline s.vars)) _ s _ _ (moves-after c.discr (settling.silenced s.vars) os s)
    refl

periodic_packet-after : (c : InitiatorConfig) (eff : ℕ) (os : List Out) (s : Course)
    → settling.periodic_packet c eff (after os s) ≡ after os (settling.periodic_packet c eff s)
unfolding settling.periodic_packet
periodic_packet-after c eff os s = rw transmits-after refl

periodic-after : (c : InitiatorConfig) (limit eff : ℕ) (os : List Out) (s : Course)
    → settling.periodic c limit eff (after os s) ≡ after os (settling.periodic c limit eff s)
unfolding settling.periodic
periodic-after c limit eff os s = either os (has_come (floor_tick limit) s.vars.tx_due && may_send true s.vars) _ s _ _
    (periodic_packet-after c eff os s) refl

pub settle-after : (c : InitiatorConfig) (limit eff : ℕ) (os : List Out) (s : Course)
    → settling.settle c limit eff (after os s) ≡ after os (settling.settle c limit eff s)
unfolding settling.settle
settle-after c limit eff os s = rw (detection-after, periodic-after) refl

-- reception

moves_state-after : (c : InitiatorConfig) (packet : Control) (os : List Out) (s : Course)
    → receiving.moves_state c packet (after os s) ≡ after os (receiving.moves_state c packet s)
unfolding receiving.moves_state
moves_state-after c packet os s = moves-after c.discr _ os s

accepted-after : (c : InitiatorConfig) (eff : ℕ) (packet : Control) (os : List Out) (s : Course)
    → receiving.accepted c eff packet (after os s) ≡ after os (receiving.accepted c eff packet s)
unfolding receiving.accepted receiving.keeps_fields
accepted-after c eff packet os s = either os (is_admin_down s.vars.state) _ _ _ _ refl (moves_state-after c packet os _)

pub received-after : (c : InitiatorConfig) (eff : ℕ) (raw : List ℕ) (os : List Out) (s : Course)
    → receiving.received c eff raw (after os s) ≡ after os (receiving.received c eff raw s)
unfolding receiving.received
received-after c eff raw os s = either os (fields_of raw).auth s _ _ _ refl (accepted-after c eff (fields_of raw) os s)

-- commands and the end of an event

pub commanded-after : (c : InitiatorConfig) (cmd : Cmd) (os : List Out) (s : Course)
    → commanded c cmd (after os s) ≡ after os (commanded c cmd s)
unfolding commanded
commanded-after c cmd os s = either os (is_some (refusal s.vars cmd)) s _ _ _ refl (moves-after c.discr (done cmd s.vars) os s)

announced-after : (c : InitiatorConfig) (eff : ℕ) (os : List Out) (s : Course)
    → based eff (transmits c (after os s)) ≡ after os (based eff (transmits c s))
announced-after c eff os s = rw transmits-after refl

extra-after : (c : InitiatorConfig) (eff : ℕ) (os : List Out) (s : Course)
    → finishing.extra c eff (after os s) ≡ after os (finishing.extra c eff s)
unfolding finishing.extra
extra-after c eff os s = either os (is_unannounced true s.mark s.vars) _ s _ _ (announced-after c eff os s) refl

pub finish-after : (c : InitiatorConfig) (eff : ℕ) (os : List Out) (s : Course)
    → finishing.finish c eff (after os s) ≡ after os (finishing.finish c eff s)
unfolding finishing.finish redrawn
finish-after c eff os s = rw extra-after refl
