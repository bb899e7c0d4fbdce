-- A tick by which a periodic packet is due and nothing else is that packet, if no Echo function is needed and none runs.
use Rattle.bfd_session.proofs.Common.{◌≡◌, ℕ, refl, None, List, Config, Vars, Mark, course, begins, Machine, PointToPoint}
use Rattle.bfd_session.proofs.Common.{flow, point_of, IsEchoOver, tick, begun, Out}
use Rattle.bfd_rules.specs.EventFrame.{announces}
use Rattle.bfd_p2p.specs.Beat.{IsBeat, redrawn_at, sent_at}
use Rattle.bfd_session.proofs.Repeated.{settles_none, turns_none, unwanted}

pub beat_tick : (m : Machine) (limit eff next : ℕ) (os outs : List Out) → IsBeat m.config limit eff m.vars os outs
    → tick (PointToPoint m.config) limit eff (begun None (point_of m None next) os)
    ≡ flow (course (redrawn_at eff m.vars) (announces m.vars (begins m.vars)) outs) None next
unfolding tick
beat_tick m limit eff next os outs h =
    let c : Config = m.config in
    let k : Mark = announces m.vars (begins m.vars) in
    let v : Vars = sent_at eff m.vars in
    let w : Vars = redrawn_at eff m.vars in
    rw (
      h.settled,
      settles_none c limit eff next (course v k outs) (unwanted c v h.echoless),
      h.finished,
      turns_none c eff next (course w k outs) (unwanted c w h.echoless),
    ) refl

pub none_over : (c : Config) (limit : ℕ) (v : Vars) → v.echo_every ≡ 0 → IsEchoOver limit c v None
none_over c limit v echoless = rw (unwanted c v echoless) refl
