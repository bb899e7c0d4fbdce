-- What has come due by an event is done first: three rules, each at most once, in this order. The limit is the moment
-- by which something is due, and eff the effective moment of the event, both in microseconds.
use Rattle.std.specs.Prelude.{ℕ, ◌&&◌, not, false, if◌then◌else◌, None}
use Rattle.bfd_packet.specs.declared.control.State.TheVariants.{Down}
use Rattle.bfd_packet.specs.States.{is_init_or_up}
use Rattle.bfd_num.specs.Numbers.{floor_tick}
use Rattle.bfd_num.specs.Due.{has_come}
use Rattle.bfd_rules.specs.declared.config.Config.{Config}
use Rattle.bfd_rules.specs.declared.variables.Poll.{Poll}
use Rattle.bfd_rules.specs.declared.variables.Poll.TheVariants.{Idle, Wanted, Running}
use Rattle.bfd_rules.specs.declared.variables.Vars.{Vars}
use Rattle.bfd_rules.specs.Quantities.{deadline, seq_deadline, may_send, is_idle}
use Rattle.bfd_rules.specs.EventFrame.{Course, enters, announces}
use Rattle.bfd_p2p.specs.Frame.{renews, moves}
use Rattle.bfd_p2p.specs.Transmit.{transmits}

-- a session in Init or Up that hears nothing goes Down with diagnostic 1, Control Detection Time Expired
abbrev pub goes_silent : Vars → Vars
goes_silent v = if is_init_or_up v.state then enters Down 1 v else v

-- nothing was heard: the peer's discriminator is forgotten (section 6.8.1, bfd.RemoteDiscr)
abbrev pub forgets_peer : Vars → Vars
forgets_peer v = record v { heard = None; remote_discr = 0 }

-- 1. Detection: the Detection Time has expired (section 6.8.4)
unfoldable pub detection : Config → ℕ → ℕ → Course → Course
detection c limit eff s =
    if has_come limit (deadline s.vars) then moves c.discr eff (goes_silent (forgets_peer s.vars)) s else s

-- the received sequence number is no longer known
abbrev pub forgets_sequence : Vars → Vars
forgets_sequence v =
    record v { seq = record { xmit = v.seq.xmit; rcv = v.seq.rcv; known = false }; seq_heard = None }

-- 2. Sequence: no authenticated packet was heard for two Detection Times (section 6.8.1, bfd.AuthSeqKnown)
unfoldable pub sequence : ℕ → ℕ → Course → Course
sequence limit eff s =
    if has_come limit (seq_deadline s.vars) then renews eff (forgets_sequence s.vars) s else s

-- a Poll Sequence that was asked for begins with this packet (section 6.5)
abbrev pub poll_sent : ℕ → Poll → Poll
poll_sent eff Idle = Idle
poll_sent eff Wanted = Running eff
poll_sent eff (Running first) = Running first

-- a periodic packet, with P while a Poll Sequence is on (sections 6.5 and 6.8.7)
unfoldable pub periodic_packet : Config → ℕ → Course → Course
periodic_packet c eff s =
    let sent : Course = transmits c (not (is_idle s.vars.poll)) false s in
    renews eff (record sent.vars { poll = poll_sent eff s.vars.poll; base = eff })
    (record sent { vars = s.vars; mark = announces s.vars s.mark })

-- 3. Periodic: a periodic packet is due (section 6.8.7)
unfoldable pub periodic : Config → ℕ → ℕ → Course → Course
periodic c limit eff s =
    if has_come (floor_tick limit) s.vars.tx_due && may_send c.active s.vars then periodic_packet c eff s else s

unfoldable pub settle : Config → ℕ → ℕ → Course → Course
settle c limit eff s = periodic c limit eff (sequence limit eff (detection c limit eff s))
