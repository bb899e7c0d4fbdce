-- A tick forgets the last answer exactly when the deadline has come by its limit.
use Rattle.bfd_sbfd.proofs.Common.{◌≡◌, ◌&&◌, ◌↔◌, ◌∙◌, ℕ, Bool, true, false, refl, None, IsSome, if◌then◌else◌, floor_tick, has_come}
use Rattle.bfd_sbfd.proofs.Common.{may_send, Course, changes, sends, is_unannounced, redrawn, InitiatorConfig, deadline, moves, transmits}
use Rattle.bfd_rules.proofs.Heard.{alike, drawn_heard, exactly}
use Rattle.bfd_sbfd.specs.Settle as settling
use Rattle.bfd_sbfd.specs.Finish as finishing

-- a choice between two courses
chosen : (b : Bool) (x y : Course) → (if b then x else y).vars.heard ≡ (if b then x.vars.heard else y.vars.heard)
chosen true x y = refl
chosen false x y = refl

detection_heard : (c : InitiatorConfig) (limit : ℕ) (s : Course)
    → (settling.detection c limit s).vars.heard ≡ (if has_come limit (deadline s.vars) then None else s.vars.heard)
unfolding settling.detection moves changes
detection_heard c limit s = chosen (has_come limit (deadline s.vars)) (moves c.discr (settling.silenced s.vars) s) s

periodic_heard : (c : InitiatorConfig) (limit eff : ℕ) (s : Course) → (settling.periodic c limit eff s).vars.heard ≡ s.vars.heard
unfolding settling.periodic settling.periodic_packet
periodic_heard c limit eff s =
    alike (has_come (floor_tick limit) s.vars.tx_due && may_send true s.vars) (settling.periodic_packet c eff s) s s.vars.heard refl refl

settle_heard : (c : InitiatorConfig) (limit eff : ℕ) (s : Course)
    → (settling.settle c limit eff s).vars.heard ≡ (if has_come limit (deadline s.vars) then None else s.vars.heard)
unfolding settling.settle
settle_heard c limit eff s = periodic_heard c limit eff (settling.detection c limit s) ∙ detection_heard c limit s

extra_heard : (c : InitiatorConfig) (eff : ℕ) (s : Course) → (finishing.extra c eff s).vars.heard ≡ s.vars.heard
unfolding finishing.extra transmits sends
extra_heard c eff s = alike (is_unannounced true s.mark s.vars) _ s s.vars.heard refl refl

finish_heard : (c : InitiatorConfig) (eff : ℕ) (s : Course) → (finishing.finish c eff s).vars.heard ≡ s.vars.heard
unfolding finishing.finish redrawn
finish_heard c eff s =
    let t : Course = finishing.extra c eff s in drawn_heard true t.mark t.vars ∙ extra_heard c eff s

-- what a tick leaves of the last answer

pub tick_heard : (c : InitiatorConfig) (limit eff : ℕ) (s : Course)
    → (finishing.finish c eff (settling.settle c limit eff s)).vars.heard
    ≡ (if has_come limit (deadline s.vars) then None else s.vars.heard)
tick_heard c limit eff s = finish_heard c eff (settling.settle c limit eff s) ∙ settle_heard c limit eff s

-- one that was present is gone if and only if the deadline has come by the limit
pub expires : (c : InitiatorConfig) (limit eff : ℕ) (s : Course) → IsSome s.vars.heard
    → ((finishing.finish c eff (settling.settle c limit eff s)).vars.heard ≡ None) ↔ (has_come limit (deadline s.vars) ≡ true)
expires c limit eff s there = exactly (has_come limit (deadline s.vars)) s.vars.heard _ (tick_heard c limit eff s) there
