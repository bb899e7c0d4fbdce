-- Each part of an event keeps a head's variables steady and a tail's sound, and the end of a head's event makes them sound.
use Rattle.bfd_mp.proofs.Common.{◌≡◌, ◌<◌, ◌≤◌, ◌==◌, ◌-◌, min, ℕ, Bool, true, false, refl, Some, IsSome, is_some, List, arith}
use Rattle.bfd_mp.proofs.Common.{if◌then◌else◌, Control, fields_of, moment_bound, floor_tick, has_come, Cmd, Vars, is_up, is_admin_down}
use Rattle.bfd_mp.proofs.Common.{Course, changes, sends, stamped, enters, is_unannounced, based, redrawn, HeadConfig, TailConfig, deadline}
use Rattle.bfd_mp.proofs.Common.{IsHeadSteady, IsHeadSound, IsTailSound, transmits, head_refusal, head_commanded, head_done, tail_refusal}
use Rattle.bfd_mp.proofs.Common.{tail_commanded, tail_done, common_steps, AdminDown, Down, Init, Up}
use Rattle.std.proofs.lemmas.Bool.Decides.{nat_tests}
use Rattle.bfd_packet.specs.declared.control.State.{State}
use Rattle.bfd_rules.specs.declared.commands.Cmd.TheVariants.{Disable, Enable, Tx, Mult}
use Rattle.bfd_mp.specs.Counting.{counted}
use Rattle.bfd_mp.specs.HeadSettle as head
use Rattle.bfd_mp.specs.HeadFinish as finishing
use Rattle.bfd_mp.specs.TailSettle as tail
use Rattle.bfd_mp.specs.TailReceive as receiving
use Rattle.bfd_mp.specs.TailReceive.{IsSized}
use Rattle.bfd_mp.proofs.Drawing.{drawn_sound}

-- a head

pub head_stamped_steady : (eff : ℕ) (v : Vars) → eff < moment_bound → IsHeadSteady v → IsHeadSteady (stamped (Some eff) v)
head_stamped_steady eff v h steady = grind (arith, common_steps)

steady_choice : (b : Bool) (x y : Course) → IsHeadSteady x.vars → IsHeadSteady y.vars → IsHeadSteady (if b then x else y).vars
steady_choice true x y hx hy = hx
steady_choice false x y hx hy = hy

based_steady : {eff : ℕ} {v : Vars} → eff < moment_bound → IsHeadSteady v → IsHeadSteady (record v { base = eff })
based_steady h steady = grind (arith, common_steps)

counted_steady : (left : ℕ) {v : Vars} → left < 256 → (v.state ≡ AdminDown → left ≡ 0) → IsHeadSteady v → IsHeadSteady (counted left v)
counted_steady left few none steady = grind (arith, common_steps, nat_tests)

fewer_by : {v : Vars} (none : Bool) → IsHeadSteady v → IsHeadSteady (if none then v else counted (v.left - 1) v)
fewer_by true steady = steady
fewer_by {v} false steady = counted_steady (v.left - 1) (omega (arith, steady.left_below)) (λ down. omega (arith, steady.none_down down))
    steady

periodic_packet_steady : (c : HeadConfig) {eff : ℕ} (s : Course) → eff < moment_bound → IsHeadSteady s.vars
    → IsHeadSteady (head.periodic_packet c eff s).vars
unfolding head.periodic_packet
periodic_packet_steady c s h steady = based_steady h (fewer_by (s.vars.left == 0) steady)

head_settle_steady : (c : HeadConfig) (limit : ℕ) {eff : ℕ} (s : Course) → eff < moment_bound → IsHeadSteady s.vars
    → IsHeadSteady (head.settle c limit eff s).vars
unfolding head.settle
head_settle_steady c limit {eff} s h steady =
    steady_choice (has_come (floor_tick limit) s.vars.tx_due) (head.periodic_packet c eff s) s (periodic_packet_steady c s h steady) steady

disabled_steady : {v : Vars} → IsHeadSteady v → IsHeadSteady (counted 0 (enters AdminDown 7 v))
disabled_steady steady = grind (arith, common_steps)

enabled_steady : {v : Vars} → IsHeadSteady v → IsHeadSteady (enters Up v.diag v)
enabled_steady steady = grind (arith, common_steps)

longer_steady : {n : ℕ} {v : Vars} → 10000 ≤ n → n ≤ 60000000 → is_up v.state ≡ true → IsHeadSteady v
    → IsHeadSteady (record (counted v.mult v) { tx = n; used_tx = min v.used_tx n })
longer_steady least most up steady = grind (arith, common_steps, nat_tests)

at_once_steady : {n : ℕ} {v : Vars} → 10000 ≤ n → n ≤ 60000000 → IsHeadSteady v → IsHeadSteady (record v { tx = n; used_tx = n })
at_once_steady least most steady = grind (arith, common_steps)

interval_by : {n : ℕ} {v : Vars} (same up : Bool) → 10000 ≤ n → n ≤ 60000000 → is_up v.state ≡ up → IsHeadSteady v
    → IsHeadSteady (if same then v else (if up then record (counted v.mult v) { tx = n; used_tx = min v.used_tx n } else record
    v { tx = n; used_tx = n }))
interval_by true up least most is steady = steady
interval_by false true least most is steady = longer_steady least most is steady
interval_by false false least most is steady = at_once_steady least most steady

tx_least : (n : ℕ) (v : Vars) → is_some (head_refusal v (Tx n)) ≡ false → 10000 ≤ n
tx_least n v free = grind (arith, common_steps, nat_tests)

tx_most : (n : ℕ) (v : Vars) → is_some (head_refusal v (Tx n)) ≡ false → n ≤ 60000000
tx_most n v free = grind (arith, common_steps, nat_tests)

mult_steady : (n : ℕ) {v : Vars} → is_some (head_refusal v (Mult n)) ≡ false → IsHeadSteady v → IsHeadSteady (record v { mult = n })
mult_steady n free steady = grind (arith, common_steps, nat_tests)

head_done_steady : (cmd : Cmd) {v : Vars} → is_some (head_refusal v cmd) ≡ false → IsHeadSteady v → IsHeadSteady (head_done cmd v)
head_done_steady Disable free steady = disabled_steady steady
head_done_steady Enable free steady = enabled_steady steady
head_done_steady (Tx n) {v} free steady = interval_by (n == v.tx) (is_up v.state) (tx_least n v free) (tx_most n v free) refl steady
head_done_steady (Mult n) free steady = mult_steady n free steady
head_done_steady cmd free steady = steady

head_commanded_by : (c : HeadConfig) (cmd : Cmd) (s : Course) (refused : Bool) → is_some (head_refusal s.vars cmd) ≡ refused
    → IsHeadSteady s.vars
    → IsHeadSteady (if refused then s else changes c.discr (head_done cmd s.vars) s).vars
unfolding changes
head_commanded_by c cmd s true is steady = steady
head_commanded_by c cmd s false is steady = head_done_steady cmd is steady

head_commanded_steady : (c : HeadConfig) (cmd : Cmd) (s : Course) → IsHeadSteady s.vars → IsHeadSteady (head_commanded c cmd s).vars
unfolding head_commanded
head_commanded_steady c cmd s steady = head_commanded_by c cmd s (is_some (head_refusal s.vars cmd)) refl steady

extra_steady : (c : HeadConfig) {eff : ℕ} (s : Course) → eff < moment_bound → IsHeadSteady s.vars
    → IsHeadSteady (finishing.extra c eff s).vars
unfolding finishing.extra transmits sends
extra_steady c {eff} s h steady = steady_choice (is_unannounced true s.mark s.vars) (based eff (transmits c false s)) s
    (based_steady h steady)
    steady

head_finish_sound : (c : HeadConfig) {eff : ℕ} (s : Course) → eff < moment_bound → IsHeadSteady s.vars
    → IsHeadSound (finishing.finish c eff s).vars
unfolding finishing.finish redrawn
head_finish_sound c {eff} s h steady = drawn_sound (finishing.extra c eff s).mark (extra_steady c s h steady)

-- whole events of a head

pub head_tick_sound : (c : HeadConfig) (limit eff : ℕ) (s : Course) → eff < moment_bound → IsHeadSteady s.vars
    → IsHeadSound (finishing.finish c eff (head.settle c limit eff s)).vars
head_tick_sound c limit eff s h steady = head_finish_sound c (head.settle c limit eff s) h (head_settle_steady c limit s h steady)

pub head_command_sound : (c : HeadConfig) (limit eff : ℕ) (cmd : Cmd) (s : Course) → eff < moment_bound → IsHeadSteady s.vars
    → IsHeadSound (finishing.finish c eff (head_commanded c cmd (head.settle c limit eff s))).vars
head_command_sound c limit eff cmd s h steady = head_finish_sound c (head_commanded c cmd (head.settle c limit eff s)) h
    (head_commanded_steady c cmd (head.settle c limit eff s) (head_settle_steady c limit s h steady))

-- a tail, whose events end with nothing

pub tail_stamped_sound : (c : TailConfig) (eff : ℕ) (v : Vars) → eff < moment_bound → IsTailSound c v → IsTailSound c (stamped (Some eff) v)
tail_stamped_sound c eff v h sound = grind (arith, common_steps)

sound_choice : {c : TailConfig} (b : Bool) (x y : Course) → IsTailSound c x.vars → IsTailSound c y.vars
    → IsTailSound c (if b then x else y).vars
sound_choice true x y hx hy = hx
sound_choice false x y hx hy = hy

down_sound : {c : TailConfig} (diag : ℕ) {v : Vars} → diag < 32 → IsTailSound c v → IsTailSound c (enters Down diag v)
down_sound diag few sound = grind (arith, common_steps)

silenced_sound : {c : TailConfig} {v : Vars} → IsTailSound c v → IsTailSound c (tail.silenced v)
silenced_sound sound = grind (arith, common_steps)

pub tail_settle_sound : (c : TailConfig) (limit : ℕ) (s : Course) → IsTailSound c s.vars → IsTailSound c (tail.settle c limit s).vars
unfolding tail.settle changes
tail_settle_sound c limit s sound = sound_choice (has_come limit (deadline s.vars)) (changes c.discr (tail.silenced s.vars) s) s
    (silenced_sound sound) sound

kept_sound : {c : TailConfig} {eff : ℕ} {packet : Control} {v : Vars} → eff < moment_bound → IsSized packet → IsTailSound c v
    → IsTailSound c (record v { remote_state = packet.state; remote_mult = packet.mult; remote_tx = packet.min_tx; heard = Some eff })
kept_sound h sized sound = grind (arith, common_steps)

up_sound : {c : TailConfig} {v : Vars} → IsSome v.heard → IsTailSound c v → IsTailSound c (enters Up v.diag v)
up_sound there sound = grind (arith, common_steps)

machine_sound : {c : TailConfig} (own received : State) {v : Vars} → IsSome v.heard → IsTailSound c v
    → IsTailSound c (receiving.machine own received v)
machine_sound Down Up there sound = up_sound there sound
machine_sound Up Down there sound = down_sound 3 (omega arith) sound
machine_sound Up AdminDown there sound = down_sound 3 (omega arith) sound
machine_sound Up Init there sound = sound
machine_sound own received there sound = sound

accepted_sound : {c : TailConfig} {eff : ℕ} {packet : Control} (s : Course) → eff < moment_bound → IsSized packet → IsTailSound c s.vars
    → IsTailSound c (receiving.accepted c eff packet s).vars
unfolding receiving.accepted receiving.keeps_fields receiving.moves_state changes
accepted_sound {c} {eff} {packet} s h sized sound =
    let t : Course = receiving.keeps_fields eff packet s in
    let kept = kept_sound h sized sound in
    sound_choice (is_admin_down t.vars.state) t (receiving.moves_state c packet t) kept (machine_sound t.vars.state packet.state refl kept)

pub received_sound : (c : TailConfig) (eff : ℕ) (raw : List ℕ) (s : Course) → eff < moment_bound → IsSized (fields_of raw)
    → IsTailSound c s.vars
    → IsTailSound c (receiving.received c eff raw s).vars
unfolding receiving.received
received_sound c eff raw s h sized sound =
    sound_choice (fields_of raw).auth s (receiving.accepted c eff (fields_of raw) s) sound (accepted_sound s h sized sound)

tail_done_sound : {c : TailConfig} (cmd : Cmd) {v : Vars} → IsTailSound c v → IsTailSound c (tail_done cmd v)
tail_done_sound Disable sound = grind (arith, common_steps)
tail_done_sound Enable {v} sound = down_sound _ sound.diag_below sound
tail_done_sound cmd sound = sound

pub tail_commanded_sound : (c : TailConfig) (cmd : Cmd) (s : Course) → IsTailSound c s.vars → IsTailSound c (tail_commanded c cmd s).vars
unfolding tail_commanded changes
tail_commanded_sound c cmd s sound =
    sound_choice (is_some (tail_refusal s.vars cmd)) s (changes c.discr (tail_done cmd s.vars) s) sound (tail_done_sound cmd sound)
