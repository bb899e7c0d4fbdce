-- Each part of an event keeps variables steady, and the end of an event makes them sound.
use Rattle.bfd_sbfd.proofs.Common.{◌≡◌, ◌^◌, ◌<◌, ◌&&◌, ℕ, Bool, true, false, refl, Some, IsSome, is_some, List, arith, if◌then◌else◌}
use Rattle.bfd_sbfd.proofs.Common.{Control, fields_of, moment_bound, floor_tick, has_come, Cmd, Vars, may_send, is_admin_down, Course}
use Rattle.bfd_sbfd.proofs.Common.{changes, sends, stamped, is_unannounced, based, redrawn, InitiatorConfig, deadline, IsInitiatorPlain}
use Rattle.bfd_sbfd.proofs.Common.{IsInitiatorSteady}
use Rattle.bfd_sbfd.proofs.Common.{IsInitiatorSound, moves, in_use, transmits, refusal, commanded, done, common_steps, nat_tests}
use Rattle.bfd_packet.specs.declared.control.State.{State}
use Rattle.bfd_packet.specs.declared.control.State.TheVariants.{AdminDown, Down, Init, Up}
use Rattle.bfd_rules.specs.declared.commands.Cmd.TheVariants.{Disable, Enable, Tx, Mult}
use Rattle.bfd_sbfd.specs.Settle as settling
use Rattle.bfd_sbfd.specs.Receive as receiving
use Rattle.bfd_sbfd.specs.Finish as finishing
use Rattle.bfd_sbfd.proofs.Drawing.{drawn_sound}

-- an own event's stamp

pub stamped_steady : (c : InitiatorConfig) (eff : ℕ) (v : Vars) → eff < moment_bound → IsInitiatorSteady c v
    → IsInitiatorSteady c (stamped (Some eff) v)
stamped_steady c eff v h steady = grind (arith, common_steps)

-- the frame of a rule

in_use_steady : {c : InitiatorConfig} {v : Vars} → IsInitiatorPlain c v → IsInitiatorSteady c (in_use v)
in_use_steady plain = grind (arith, common_steps)

moves_steady : {c : InitiatorConfig} {v : Vars} (s : Course) → IsInitiatorPlain c v → IsInitiatorSteady c (moves c.discr v s).vars
unfolding moves changes
moves_steady s plain = in_use_steady plain

choice_steady : {c : InitiatorConfig} (b : Bool) (x y : Course) → IsInitiatorSteady c x.vars → IsInitiatorSteady c y.vars
    → IsInitiatorSteady c (if b then x else y).vars
choice_steady true x y hx hy = hx
choice_steady false x y hx hy = hy

based_steady : {c : InitiatorConfig} {eff : ℕ} {v : Vars} → eff < moment_bound → IsInitiatorSteady c v
    → IsInitiatorSteady c (record v { base = eff })
based_steady h steady = grind (arith, common_steps)

-- settling

silenced_plain : {c : InitiatorConfig} {v : Vars} → IsInitiatorPlain c v → IsInitiatorPlain c (settling.silenced v)
silenced_plain h = grind (arith, common_steps)

detection_steady : {c : InitiatorConfig} (limit : ℕ) (s : Course) → IsInitiatorSteady c s.vars
    → IsInitiatorSteady c (settling.detection c limit s).vars
unfolding settling.detection
detection_steady {c} limit s steady = choice_steady (has_come limit (deadline s.vars)) (moves c.discr (settling.silenced s.vars) s) s
    (moves_steady s (silenced_plain steady.plain)) steady

periodic_packet_steady : {c : InitiatorConfig} {eff : ℕ} (s : Course) → eff < moment_bound → IsInitiatorSteady c s.vars
    → IsInitiatorSteady c (settling.periodic_packet c eff s).vars
unfolding settling.periodic_packet
periodic_packet_steady s h steady = based_steady h steady

periodic_steady : {c : InitiatorConfig} (limit : ℕ) {eff : ℕ} (s : Course) → eff < moment_bound → IsInitiatorSteady c s.vars
    → IsInitiatorSteady c (settling.periodic c limit eff s).vars
unfolding settling.periodic
periodic_steady {c} limit {eff} s h steady =
    choice_steady (has_come (floor_tick limit) s.vars.tx_due && may_send true s.vars) (settling.periodic_packet c eff s) s
    (periodic_packet_steady s h steady) steady

settle_steady : {c : InitiatorConfig} (limit : ℕ) {eff : ℕ} (s : Course) → eff < moment_bound → IsInitiatorSteady c s.vars
    → IsInitiatorSteady c (settling.settle c limit eff s).vars
unfolding settling.settle
settle_steady {c} limit s h steady = periodic_steady limit (settling.detection c limit s) h (detection_steady limit s steady)

-- reception: the received interval has 32 bits, as a field of a packet has

kept_plain : {c : InitiatorConfig} {eff : ℕ} (packet : Control) {v : Vars} → eff < moment_bound → packet.min_rx < 2 ^ 32
    → IsInitiatorSteady c v
    → IsInitiatorPlain c (record v { remote_state = packet.state; remote_min_rx = packet.min_rx; heard = Some eff })
kept_plain packet h few steady = grind (arith, common_steps)

kept_steady : {c : InitiatorConfig} {eff : ℕ} (packet : Control) {v : Vars} → eff < moment_bound → packet.min_rx < 2 ^ 32
    → IsInitiatorSteady c v
    → IsInitiatorSteady c (record v { remote_state = packet.state; remote_min_rx = packet.min_rx; heard = Some eff })
kept_steady packet h few steady = record { plain = kept_plain packet h few steady; in_use = steady.in_use }

up_plain : {c : InitiatorConfig} {v : Vars} → IsSome v.heard → IsInitiatorPlain c v
    → IsInitiatorPlain c (record v { state = Up; diag = v.diag })
up_plain there plain = grind (arith, common_steps)

down_plain : {c : InitiatorConfig} {v : Vars} → IsInitiatorPlain c v → IsInitiatorPlain c (record v { state = Down; diag = 3 })
down_plain plain = grind (arith, common_steps)

machine_plain : {c : InitiatorConfig} (own received : State) {v : Vars} → IsSome v.heard → IsInitiatorPlain c v
    → IsInitiatorPlain c (receiving.machine own received v)
machine_plain Down Up there plain = up_plain there plain
machine_plain Up AdminDown there plain = down_plain plain
machine_plain AdminDown AdminDown there plain = plain
machine_plain AdminDown Down there plain = plain
machine_plain AdminDown Init there plain = plain
machine_plain Init AdminDown there plain = plain
machine_plain own received there plain = plain

accepted_steady : {c : InitiatorConfig} {eff : ℕ} (packet : Control) (s : Course) → eff < moment_bound → packet.min_rx < 2 ^ 32
    → IsInitiatorSteady c s.vars
    → IsInitiatorSteady c (receiving.accepted c eff packet s).vars
unfolding receiving.accepted receiving.keeps_fields receiving.moves_state
accepted_steady {c} {eff} packet s h few steady =
    let t : Course = receiving.keeps_fields eff packet s in
    let kept = kept_steady packet h few steady in
    choice_steady (is_admin_down t.vars.state) t (receiving.moves_state c packet t) kept
    (moves_steady t (machine_plain t.vars.state packet.state refl kept.plain))

received_steady : {c : InitiatorConfig} {eff : ℕ} (raw : List ℕ) (s : Course) → eff < moment_bound → (fields_of raw).min_rx < 2 ^ 32
    → IsInitiatorSteady c s.vars
    → IsInitiatorSteady c (receiving.received c eff raw s).vars
unfolding receiving.received
received_steady {c} {eff} raw s h few steady =
    choice_steady (fields_of raw).auth s (receiving.accepted c eff (fields_of raw) s) steady
    (accepted_steady (fields_of raw) s h few steady)

-- commands

done_plain : {c : InitiatorConfig} (cmd : Cmd) {v : Vars} → is_some (refusal v cmd) ≡ false → IsInitiatorPlain c v
    → IsInitiatorPlain c (done cmd v)
done_plain Disable free plain = grind (arith, common_steps)
done_plain Enable free plain = grind (arith, common_steps)
done_plain (Tx n) free plain = grind (arith, common_steps, nat_tests)
done_plain (Mult n) free plain = grind (arith, common_steps, nat_tests)
done_plain cmd free plain = plain

command_by : {c : InitiatorConfig} (cmd : Cmd) (s : Course) (b : Bool) → is_some (refusal s.vars cmd) ≡ b → IsInitiatorSteady c s.vars
    → IsInitiatorSteady c (if b then s else moves c.discr (done cmd s.vars) s).vars
command_by cmd s true is steady = steady
command_by cmd s false is steady = moves_steady s (done_plain cmd is steady.plain)

commanded_steady : {c : InitiatorConfig} (cmd : Cmd) (s : Course) → IsInitiatorSteady c s.vars
    → IsInitiatorSteady c (commanded c cmd s).vars
unfolding commanded
commanded_steady cmd s steady = command_by cmd s (is_some (refusal s.vars cmd)) refl steady

-- the end of an event

extra_steady : {c : InitiatorConfig} {eff : ℕ} (s : Course) → eff < moment_bound → IsInitiatorSteady c s.vars
    → IsInitiatorSteady c (finishing.extra c eff s).vars
unfolding finishing.extra transmits sends
extra_steady {c} {eff} s h steady = choice_steady (is_unannounced true s.mark s.vars) (based eff (transmits c s)) s (based_steady h steady)
    steady

finish_sound : {c : InitiatorConfig} {eff : ℕ} (s : Course) → eff < moment_bound → IsInitiatorSteady c s.vars
    → IsInitiatorSound c (finishing.finish c eff s).vars
unfolding finishing.finish redrawn
finish_sound {c} {eff} s h steady =
    let t : Course = finishing.extra c eff s in drawn_sound c t.mark _ (extra_steady s h steady)

-- whole events

pub tick_sound : (c : InitiatorConfig) (limit eff : ℕ) (s : Course) → eff < moment_bound → IsInitiatorSteady c s.vars
    → IsInitiatorSound c (finishing.finish c eff (settling.settle c limit eff s)).vars
tick_sound c limit eff s h steady = finish_sound (settling.settle c limit eff s) h (settle_steady limit s h steady)

pub packet_sound : (c : InitiatorConfig) (limit eff : ℕ) (raw : List ℕ) (s : Course) → eff < moment_bound → (fields_of raw).min_rx < 2 ^ 32
    → IsInitiatorSteady c s.vars
    → IsInitiatorSound c (finishing.finish c eff (receiving.received c eff raw (settling.settle c limit eff s))).vars
packet_sound c limit eff raw s h few steady = finish_sound (receiving.received c eff raw (settling.settle c limit eff s)) h
    (received_steady raw (settling.settle c limit eff s) h few (settle_steady limit s h steady))

pub command_sound : (c : InitiatorConfig) (limit eff : ℕ) (cmd : Cmd) (s : Course) → eff < moment_bound → IsInitiatorSteady c s.vars
    → IsInitiatorSound c (finishing.finish c eff (commanded c cmd (settling.settle c limit eff s))).vars
command_sound c limit eff cmd s h steady = finish_sound (commanded c cmd (settling.settle c limit eff s)) h
    (commanded_steady cmd (settling.settle c limit eff s) (settle_steady limit s h steady))
