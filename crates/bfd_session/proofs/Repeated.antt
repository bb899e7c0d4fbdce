-- A packet with nothing new for a point-to-point session in Up is the whole event, if no Echo function is needed and none runs.
use Rattle.bfd_session.proofs.Common.{◌≡◌, ◌&&◌, ℕ, Bool, true, false, refl, None, Some, List, Config, Vars, Course, course, begins, is_up}
use Rattle.bfd_session.proofs.Common.{is_single, Machine, Arrival, PointToPoint, Packet, flow, point_of, should_echo, settles_echo}
use Rattle.bfd_session.proofs.Common.{turns_echo, step}
use Rattle.bfd_session.proofs.Common.{begun, reply_from, Out}
use Rattle.bfd_session.specs.declared.event.Answer.TheVariants.{Handled}
use Rattle.bfd_p2p.specs.Again.{IsAgain, heard_again}

-- nothing is echoed by a session that isn't to
and_false : (b : Bool) → (b && false) ≡ false
and_false true = refl
and_false false = refl

pub unwanted : (c : Config) (v : Vars) → v.echo_every ≡ 0 → should_echo c v ≡ false
unwanted c v echoless = rw (echoless, and_false (is_up v.state), and_false (is_single c.role)) refl

pub settles_none : (c : Config) (limit eff next : ℕ) (s : Course) → should_echo c s.vars ≡ false
    → settles_echo c limit eff (flow s None next) ≡ flow s None next
unfolding settles_echo
settles_none c limit eff next s off = rw off refl

pub turns_none : (c : Config) (eff next : ℕ) (s : Course) → should_echo c s.vars ≡ false
    → turns_echo c eff (flow s None next) ≡ flow s None next
turns_none c eff next s off = rw off refl

pub again_step : (m : Machine) (eff next : ℕ) (arrival : Arrival) (os : List Out) → IsAgain m.config eff arrival.ttl arrival.payload m.vars
    → step (PointToPoint m.config) eff (Packet arrival) (begun (Some eff) (point_of m None next) os)
    ≡ flow (course (heard_again eff m.vars) (begins (heard_again eff m.vars)) os) None next
unfolding step
again_step m eff next arrival os h =
    let c : Config = m.config in
    let v : Vars = record m.vars { at = eff } in
    let w : Vars = heard_again eff m.vars in
    rw (
      h.settled (begins v) os,
      settles_none c eff eff next (course v (begins v) os) (unwanted c v h.echoless),
      h.received (begins v) os,
      h.finished os,
      turns_none c eff next (course w (begins v) os) (unwanted c w h.echoless),
    ) refl

pub again_answer : (m : Machine) (eff next : ℕ) (arrival : Arrival) (os : List Out)
    → IsAgain m.config eff arrival.ttl arrival.payload m.vars
    → reply_from eff (Packet arrival) (point_of m None next) os ≡ Handled
again_answer m eff next arrival os h =
    let c : Config = m.config in
    let v : Vars = record m.vars { at = eff } in
    rw (h.settled (begins v) os, settles_none c eff eff next (course v (begins v) os) (unwanted c v h.echoless), h.verdict) refl
