-- When echo packets are sent, and when the Echo function has failed (RFC 5880 sections 6.8.5, 6.8.8 and 6.8.9).
-- Intervals and moments are in microseconds.
use Rattle.std.specs.Prelude.{ℕ, ◌+◌, ◌*◌, ◌==◌, Bool, not, ◌&&◌, max, min, nat_le, Option, None, Some}
use Rattle.bfd_num.specs.Numbers.{floor_tick, ceil_tick}
use Rattle.bfd_echo.specs.declared.echo.Echo.{Echo}

-- this side would send echo packets and the peer would accept them: neither its interval nor the peer's Required Min Echo
-- RX Interval is 0 (section 6.8.9). A session over one hop that is Up then sends them
abbrev pub is_echo_wanted : ℕ → ℕ → Bool
is_echo_wanted own peer = not (own == 0) && not (peer == 0)

-- the interval of echo packets: this side's, but no shorter than the peer's Required Min Echo RX Interval (section 6.8.9)
abbrev pub echo_interval : ℕ → ℕ → ℕ
echo_interval own peer = max own peer

-- the moment at which the Echo function fails: when Detect Mult intervals have passed since a packet came back
-- (section 6.8.5, which leaves open how many may be missing)
abbrev pub deadline : Echo → ℕ → ℕ → ℕ
deadline e interval mult = e.last + mult * interval

-- the tick at which the next packet is due: the first packet's, or else the first tick at least the interval after the last packet
abbrev pub tick_after : ℕ → Option ℕ → ℕ → ℕ
tick_after first None interval = first
tick_after first (Some sent) interval = ceil_tick (sent + interval)

abbrev pub sending_tick : Echo → ℕ → ℕ
sending_tick e interval = tick_after e.first e.sent interval

-- the tick that the Echo function needs next
abbrev pub due : Echo → ℕ → ℕ → ℕ
due e interval mult = min (ceil_tick (deadline e interval mult)) (sending_tick e interval)

-- by the limit the Echo function has failed
abbrev pub has_failed : ℕ → ℕ → ℕ → Echo → Bool
has_failed limit interval mult e = nat_le (deadline e interval mult) limit

-- by the limit a packet is due
abbrev pub is_sending : ℕ → ℕ → Echo → Bool
is_sending limit interval e = nat_le (sending_tick e interval) (floor_tick limit)
