-- What has come due by an event is done first: two rules, each at most once, in this order. The limit is the moment by
-- which something is due, and eff the effective moment of the event, both in microseconds.
use Rattle.std.specs.Prelude.{ℕ, ◌&&◌, true, if◌then◌else◌, None}
use Rattle.bfd_packet.specs.declared.control.State.TheVariants.{Down}
use Rattle.bfd_num.specs.Numbers.{floor_tick}
use Rattle.bfd_num.specs.Due.{has_come}
use Rattle.bfd_rules.specs.declared.variables.Vars.{Vars}
use Rattle.bfd_rules.specs.Quantities.{may_send}
use Rattle.bfd_rules.specs.EventFrame.{Course, enters, announces}
use Rattle.bfd_sbfd.specs.declared.config.InitiatorConfig.{InitiatorConfig}
use Rattle.bfd_sbfd.specs.Waiting.{deadline}
use Rattle.bfd_sbfd.specs.Frame.{moves}
use Rattle.bfd_sbfd.specs.Transmit.{transmits}

-- no answer came: the session goes Down with diagnostic 1, Control Detection Time Expired
abbrev pub silenced : Vars → Vars
silenced v = enters Down 1 (record v { heard = None })

-- 1. Detection: the Detection Time has expired (RFC 7880 section 7.3.1, RFC 5880 section 6.8.4)
unfoldable pub detection : InitiatorConfig → ℕ → Course → Course
detection c limit s = if has_come limit (deadline s.vars) then moves c.discr (silenced s.vars) s else s

-- a periodic packet moves the base, and carries the present state and diagnostic
unfoldable pub periodic_packet : InitiatorConfig → ℕ → Course → Course
periodic_packet c eff s =
    let sent : Course = transmits c s in
    record sent { vars = record s.vars { base = eff }; mark = announces s.vars s.mark }

-- 2. Periodic: a periodic packet is due (RFC 5880 section 6.8.7); an initiator is active
unfoldable pub periodic : InitiatorConfig → ℕ → ℕ → Course → Course
periodic c limit eff s =
    if has_come (floor_tick limit) s.vars.tx_due && may_send true s.vars then periodic_packet c eff s else s

unfoldable pub settle : InitiatorConfig → ℕ → ℕ → Course → Course
settle c limit eff s = periodic c limit eff (detection c limit s)
