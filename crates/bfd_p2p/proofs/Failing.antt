-- A failure that another function finds leaves nothing due that settling had done.
use Rattle.std.proofs.Common.{◌≡◌, ◌<◌, ◌≤◌, ◌+◌, ◌*◌, max, ℕ, Bool, true, false, refl, ◌∙◌, Option, None, Some, IsSome, option_map, arith}
use Rattle.std.proofs.Common.{if◌then◌else◌}
use Rattle.std.proofs.lemmas.Grind.{common_steps}
use Rattle.std.proofs.lemmas.Bool.Decides.{nat_tests}
use Rattle.std.specs.Prelude.{nat_le}
use Rattle.bfd_packet.specs.declared.control.State.TheVariants.{Down, Up}
use Rattle.bfd_num.specs.Due.{has_come}
use Rattle.bfd_rules.specs.declared.config.Config.{Config}
use Rattle.bfd_rules.specs.declared.variables.Poll.TheVariants.{Wanted}
use Rattle.bfd_rules.specs.declared.variables.Vars.{Vars}
use Rattle.bfd_rules.specs.declared.variables.Mark.{Mark}
use Rattle.bfd_rules.specs.Quantities.{deadline, seq_deadline, detection_time, demand_here, is_idle}
use Rattle.bfd_rules.specs.Renewal.{poll_renewed, used_renewed, demand_renewed, renewed}
use Rattle.bfd_rules.specs.Sound.{IsRenewed, IsSteady}
use Rattle.bfd_p2p.specs.Machine.{failed}
use Rattle.bfd_p2p.specs.Over.{IsSettled}

-- what the failure leaves of the variables that the deadlines are computed from
record Kept (eff : ℕ) (v w : Vars) : Type 0 where
  state : w.state ≡ Down
  used_rx : w.used_rx ≡ v.used_rx
  mult : w.remote_mult ≡ v.remote_mult
  tx : w.remote_tx ≡ v.remote_tx
  heard : w.heard ≡ (if demand_here v then option_map (λ _. eff) v.heard else v.heard)
  seq_heard : w.seq_heard ≡ v.seq_heard
  base : w.base ≡ v.base

-- in Down Demand mode isn't active
demand_down : (v : Vars) → v.state ≡ Down → demand_here v ≡ false
demand_down v h = grind (arith, common_steps)

-- the end of Demand mode restarts the Detection Time
demand_kept : (eff : ℕ) (v x : Vars) (here : Bool) → demand_here v ≡ here → x.state ≡ Down → x.used_rx ≡ v.used_rx
    → x.remote_mult ≡ v.remote_mult → x.remote_tx ≡ v.remote_tx → x.heard ≡ v.heard → x.seq_heard ≡ v.seq_heard → x.base ≡ v.base
    → Kept eff v (demand_renewed eff v x)
unfolding demand_renewed
demand_kept eff v x true is down rx mult tx heard seq base =
    rw (is, demand_down x down) (record {
      state = down;
      used_rx = rx;
      mult = mult;
      tx = tx;
      heard = rw is (cc);
      seq_heard = seq;
      base = base;
    })
demand_kept eff v x false is down rx mult tx heard seq base =
    rw (is, demand_down x down) (record {
      state = down;
      used_rx = rx;
      mult = mult;
      tx = tx;
      heard = rw is heard;
      seq_heard = seq;
      base = base;
    })

-- the Required Min RX in use stays
used_stays : {v : Vars} (x : Vars) → IsRenewed v → x.rx ≡ v.rx → x.used_rx ≡ v.used_rx → (is_idle x.poll ≡ true → is_idle v.poll ≡ true)
    → (used_renewed x).used_rx ≡ v.used_rx
unfolding used_renewed
used_stays x h rx used idle = grind (arith, common_steps, nat_tests)

used_kept : (eff : ℕ) {v : Vars} (x : Vars) → IsRenewed v → x.state ≡ Down → x.rx ≡ v.rx → x.used_rx ≡ v.used_rx
    → (is_idle x.poll ≡ true → is_idle v.poll ≡ true)
    → x.remote_mult ≡ v.remote_mult → x.remote_tx ≡ v.remote_tx → x.heard ≡ v.heard → x.seq_heard ≡ v.seq_heard → x.base ≡ v.base
    → Kept eff v (demand_renewed eff v (used_renewed x))
unfolding used_renewed
used_kept eff {v} x h down rx used idle mult tx heard seq base =
    demand_kept eff v (used_renewed x) (demand_here v) refl down (used_stays x h rx used idle) mult tx heard seq base

poll_kept : (eff diag : ℕ) {v : Vars} (b : Bool) → IsRenewed v
    → Kept eff v (demand_renewed eff v (used_renewed (if b then failed diag v else record (failed diag v) { poll = Wanted })))
poll_kept eff diag {v} true h = used_kept eff (failed diag v) h refl refl refl (λ i. i) refl refl refl refl refl
poll_kept eff diag {v} false h = used_kept eff (record (failed diag v) { poll = Wanted }) h refl refl refl (λ i. cc) refl refl refl refl
    refl

kept : (eff diag : ℕ) {v : Vars} → IsRenewed v → Kept eff v (renewed eff v (failed diag v))
unfolding renewed poll_renewed
kept eff diag h = poll_kept eff diag _ h

-- a wait after this moment ends past the limit
wait_later : {limit eff mult : ℕ} (interval : ℕ) → limit ≤ eff → 0 < mult → 10000 ≤ interval → nat_le (eff + mult * interval) limit ≡ false
wait_later {mult} interval reached some_mult some_interval = grind (arith, nat_tests)

-- no deadline that hadn't come has come by the failure
late_by : (limit eff wait : ℕ) (here : Bool) (before heard : Option ℕ) → (IsSome heard → nat_le (eff + wait) limit ≡ false)
    → (here ≡ false → has_come limit (option_map (λ h. h + wait) heard) ≡ false)
    → has_come limit (option_map (λ h. h + wait) (if here then option_map (λ _. eff) heard else heard)) ≡ false
late_by limit eff wait true before None later late = refl
late_by limit eff wait true before (Some h) later late = later refl
late_by limit eff wait false before heard later late = late refl

deadline_at : (v w : Vars) {wait : ℕ} → w.state ≡ Down → detection_time w ≡ wait → deadline w ≡ option_map (λ h. h + wait) w.heard
deadline_at v w down is = rw (demand_down w down, is) refl

late : (c : Config) (limit eff : ℕ) (v w : Vars) → limit ≤ eff → IsSteady c v → Kept eff v w → has_come limit (deadline v) ≡ false
    → has_come limit (deadline w) ≡ false
late c limit eff v w reached steady kept h =
    let same : detection_time w ≡ detection_time v = rw (kept.used_rx, kept.mult, kept.tx) refl in
    let shown : deadline w ≡ option_map (λ h. h + detection_time v) (if demand_here v then option_map (λ _. eff) v.heard else v.heard) =
    cc (deadline_at v w kept.state same) in
    cc (late_by limit eff (detection_time v) (demand_here v) v.heard v.heard
    (λ there. wait_later (max v.used_rx v.remote_tx) reached (steady.peer.heard_mult there)
    (omega (arith, steady.plain.rx_least, steady.renewed.rx_at_least)))
    (λ off. let was : deadline v ≡ option_map (λ h. h + detection_time v) v.heard = rw off refl in
    cc))

seq_same : {eff : ℕ} {v w : Vars} → Kept eff v w → seq_deadline w ≡ seq_deadline v
seq_same kept = rw (kept.used_rx, kept.mult, kept.tx, kept.seq_heard) refl

pub failed_settled : (c : Config) (limit eff diag : ℕ) (m : Mark) (v w : Vars) → limit ≤ eff → IsSteady c v → v.state ≡ Up
    → w ≡ renewed eff v (failed diag v) → IsSettled c.active limit eff m v → IsSettled c.active limit eff m w
failed_settled c limit eff diag m v w reached steady up made h =
    let k : Kept eff v w = rw made (kept eff diag steady.renewed) in
    let mark_up = h.up_before up in
    record {
      late = late c _ eff v w reached steady k h.late;
      seq_late = cc (seq_same k);
      unanswered = h.unanswered;
      based = λ moved. k.base ∙ h.based moved;
      up_before = λ still_up. mark_up;
      still = λ moved quiet may. cc;
    }
