-- A tick forgets a tail's last packet exactly when the deadline has come by its limit.
use Rattle.bfd_mp.proofs.Common.{◌≡◌, ◌↔◌, ℕ, Bool, true, false, refl, Option, None, IsSome, if◌then◌else◌, has_come, Vars, is_up, Course}
use Rattle.bfd_mp.proofs.Common.{changes, enters, TailConfig, deadline, Down}
use Rattle.bfd_rules.proofs.Heard.{exactly}
use Rattle.bfd_mp.specs.TailSettle as settling

-- in every state
silent : (up : Bool) (v : Vars) → v.heard ≡ None → (if up then enters Down 1 v else v).heard ≡ None
silent true v none = none
silent false v none = none

chosen : (b : Bool) (x y : Course) (h : Option ℕ) → x.vars.heard ≡ None → y.vars.heard ≡ h
    → (if b then x else y).vars.heard ≡ (if b then None else h)
chosen true x y h gone kept = gone
chosen false x y h gone kept = kept

-- what a tick leaves of the last packet; the end of a tail's event does nothing
pub tail_heard : (c : TailConfig) (limit : ℕ) (s : Course)
    → (settling.settle c limit s).vars.heard ≡ (if has_come limit (deadline s.vars) then None else s.vars.heard)
unfolding settling.settle changes
tail_heard c limit s = chosen (has_come limit (deadline s.vars)) _ s s.vars.heard
    (silent (is_up s.vars.state) (record s.vars { heard = None }) refl) refl

-- one that was present is gone if and only if the deadline has come by the limit
pub tail_expires : (c : TailConfig) (limit : ℕ) (s : Course) → IsSome s.vars.heard
    → ((settling.settle c limit s).vars.heard ≡ None) ↔ (has_come limit (deadline s.vars) ≡ true)
tail_expires c limit s there = exactly (has_come limit (deadline s.vars)) s.vars.heard _ (tail_heard c limit s) there
