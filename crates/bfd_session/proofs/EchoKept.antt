-- The end of a point-to-point session's event leaves what its Echo function runs by.
use Rattle.bfd_session.proofs.Common.{◌≡◌, ℕ, Bool, true, false, refl, Option, None, Some, if◌then◌else◌, next_j, Config, Mark, Vars}
use Rattle.bfd_session.proofs.Common.{may_send, tx_interval, Course, sends, is_unannounced, based, draws, drawn, redrawn, transmits, Echo}
use Rattle.bfd_session.proofs.Common.{echo_due, IsEchoOver, pick}
use Rattle.bfd_p2p.specs.Finish.{extra, finish}

-- the variables that it runs by are the same
pub record IsEchoKept (v w : Vars) : Type 0 where
  pub state : w.state ≡ v.state
  pub echo_every : w.echo_every ≡ v.echo_every
  pub remote_min_echo : w.remote_min_echo ≡ v.remote_min_echo
  pub mult : w.mult ≡ v.mult

kept_itself : (v : Vars) → IsEchoKept v v
kept_itself v = record { state = refl; echo_every = refl; remote_min_echo = refl; mult = refl }

then_kept : {u v w : Vars} → IsEchoKept u v → IsEchoKept v w → IsEchoKept u w
then_kept h k = record {
  state = cc;
  echo_every = cc;
  remote_min_echo = cc;
  mult = cc;
}

-- so it is due at the same tick
due_kept : (c : Config) {v w : Vars} (echo : Option Echo) → IsEchoKept v w → echo_due c w echo ≡ echo_due c v echo
due_kept c echo h = rw (h.state, h.echo_every, h.remote_min_echo, h.mult) refl

-- the end of an event keeps them

extra_kept : (c : Config) (eff : ℕ) (s : Course) → IsEchoKept s.vars (extra c eff s).vars
unfolding extra transmits sends
extra_kept c eff s = by (is_unannounced c.active s.mark s.vars)
  where
    by : (announced : Bool) → IsEchoKept s.vars (if announced then based eff (transmits c false false s) else s).vars
    by true = record { state = refl; echo_every = refl; remote_min_echo = refl; mult = refl }
    by false = kept_itself s.vars

drawn_kept : (active : Bool) (m : Mark) (v : Vars) → IsEchoKept v (drawn active m v)
unfolding drawn
drawn_kept active m v = by (may_send active v) (draws m v)
  where
    by : (may anew : Bool) → IsEchoKept v (if may
        then (if anew then record v { tx_due = Some (pick v.base (tx_interval v) v.mult v.j); j = next_j v.j } else v)
        else record v { tx_due = None })
    by true true = record { state = refl; echo_every = refl; remote_min_echo = refl; mult = refl }
    by true false = kept_itself v
    by false _ = record { state = refl; echo_every = refl; remote_min_echo = refl; mult = refl }

finish_kept : (c : Config) (eff : ℕ) (s : Course) → IsEchoKept s.vars (finish c eff s).vars
unfolding finish redrawn
finish_kept c eff s = then_kept (extra_kept c eff s) (drawn_kept c.active (extra c eff s).mark (extra c eff s).vars)

-- and so nothing of it comes due by the end of an event
pub finish_keeps_echo : (c : Config) (limit eff : ℕ) (s : Course) (echo : Option Echo) → IsEchoOver limit c s.vars echo
    → IsEchoOver limit c (finish c eff s).vars echo
finish_keeps_echo c limit eff s echo over = cc (due_kept c echo (finish_kept c eff s))
