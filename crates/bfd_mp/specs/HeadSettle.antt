-- What has come due by an event of a head is done first: the periodic packet, at most once. The limit is the moment by
-- which something is due, and eff the effective moment of the event, both in microseconds.
use Rattle.std.specs.Prelude.{ℕ, ◌==◌, ◌-◌, not, if◌then◌else◌}
use Rattle.bfd_num.specs.Numbers.{floor_tick}
use Rattle.bfd_num.specs.Due.{has_come}
use Rattle.bfd_rules.specs.declared.variables.Vars.{Vars}
use Rattle.bfd_rules.specs.EventFrame.{Course, announces}
use Rattle.bfd_mp.specs.declared.config.HeadConfig.{HeadConfig}
use Rattle.bfd_mp.specs.Counting.{counted}
use Rattle.bfd_mp.specs.Transmit.{transmits}

-- a periodic packet that carried P leaves one fewer to be sent with it (RFC 8562 section 5.10)
abbrev pub one_fewer : Vars → Vars
one_fewer v = if v.left == 0 then v else counted (v.left - 1) v

-- a periodic packet, with P while such packets are to be sent: it moves the base, and carries the present state and diagnostic
unfoldable pub periodic_packet : HeadConfig → ℕ → Course → Course
periodic_packet c eff s =
    let sent : Course = transmits c (not (s.vars.left == 0)) s in
    record sent { vars = record (one_fewer s.vars) { base = eff }; mark = announces s.vars s.mark }

-- a periodic packet is due (RFC 5880 section 6.8.7); a head sends it in every state, also in AdminDown
unfoldable pub settle : HeadConfig → ℕ → ℕ → Course → Course
settle c limit eff s = if has_come (floor_tick limit) s.vars.tx_due then periodic_packet c eff s else s
