-- A script built from three numbers: how many sessions and ticks there are, and a seed.
use Rattle.std.specs.Prelude.{ℕ, ◌+◌, ◌-◌, ◌*◌, ◌%◌, ◌^◌, ◌==◌, ◌&&◌, Bool, true, false, not, nat_le, None, List, [], ◌∷◌, ◌++◌, map}
use Rattle.std.specs.Prelude.{length, if◌then◌else◌}
use Rattle.std.specs.List.{filter, flat_map, range_with_len}
use Rattle.bfd_packet.specs.declared.arrival.Addr.{Addr}
use Rattle.bfd_packet.specs.declared.arrival.Addr.TheVariants.{V4}
use Rattle.bfd_packet.specs.declared.arrival.Arrival.{Arrival}
use Rattle.bfd_packet.specs.declared.arrival.Port.TheVariants as ports
use Rattle.bfd_packet.specs.declared.control.Control.{Control}
use Rattle.bfd_packet.specs.declared.control.State.TheVariants.{Init, Up}
use Rattle.bfd_packet.specs.Layout.{text_of}
use Rattle.bfd_rules.specs.declared.config.Role.TheVariants.{Single}
use Rattle.bfd_session.specs.declared.event.SessionConfig.{SessionConfig}
use Rattle.bfd_session.specs.declared.event.SessionConfig.TheVariants.{PointToPoint}
use Rattle.bfd_script.specs.declared.line.entries.Line.{Line}
use Rattle.bfd_script.specs.declared.line.entries.Line.TheVariants.{Rx, Tick}
use Rattle.bfd_script.specs.Reading.{Lists}

-- every session hears a packet once in so many ticks: session i at the ticks with the same remainder as i
abbrev pub period : ℕ
period = 300

-- the address of every session, 10.0.0.1
abbrev pub local : Addr
local = V4 167772161

-- the address of the peer of session i, 10.1.0.0 plus i
abbrev pub remote : ℕ → Addr
remote i = V4 (167837696 + i)

-- session i: active, over interface 1, with intervals of 300,000 microseconds, Detect Mult 3, no Echo function and no keys
abbrev pub config : ℕ → ℕ → SessionConfig
config seed i = PointToPoint (record {
  discr = i;
  role = Single;
  iface = 1;
  local = local;
  remote = remote i;
  active = true;
  tx = 300000;
  rx = 300000;
  mult = 3;
  echo = 0;
  seed = (seed + i) % 2 ^ 32;
  keys = None;
})

-- how many earlier ticks, from 1 on, have the same remainder as this one: the packets before those of this tick
unfoldable pub earlier : ℕ → ℕ
earlier t = length (filter (λ u. u % period == t % period) (range_with_len 1 (t - 1)))

-- the packet to session i with p before it: Init at first, and then Up, with F and the faster interval
abbrev pub control : ℕ → ℕ → Control
control i p = record {
  diag = 0;
  state = if p == 0 then Init else Up;
  poll = false;
  fin = not (p == 0);
  cpi = false;
  auth = false;
  demand = false;
  multi = false;
  mult = 3;
  length = 24;
  my = 1000000 + i;
  your = i;
  min_tx = if p == 0 then 1000000 else 300000;
  min_rx = 300000;
  min_echo = 0;
}

-- it arrives from the peer with TTL 255
abbrev pub arrival : ℕ → ℕ → Arrival
arrival i p = record {
  port = ports.Single;
  iface = 1;
  src = remote i;
  sport = 49152;
  dst = local;
  ttl = 255;
  payload = text_of (control i p) [];
}

-- every tenth session falls silent: it hears three packets and no more
abbrev pub is_silent : ℕ → ℕ → Bool
is_silent i p = (i % 10 == 0) && nat_le 3 p

-- session i hears a packet at tick t
abbrev pub hears : ℕ → ℕ → Bool
hears t i = (t % period == i % period) && not (is_silent i (earlier t))

-- the packet of session i, at the moment of the tick
abbrev pub packet : ℕ → ℕ → Line
packet t i = Rx (1000 * t) (arrival i (earlier t))

-- the packets at a tick, by ascending session
abbrev pub packets : ℕ → ℕ → List Line
packets sessions t = map (packet t) (filter (hears t) (range_with_len 1 sessions))

-- the packets at a tick, and then the tick
abbrev pub tick_events : ℕ → ℕ → List Line
tick_events sessions t = packets sessions t ++ Tick t ∷ []

-- the events of the ticks 1, 2 and on
abbrev pub events : ℕ → ℕ → List Line
events sessions ticks = flat_map (tick_events sessions) (range_with_len 1 ticks)

-- the sessions 1, 2 and on, and the events
abbrev pub script : ℕ → ℕ → ℕ → Lists
script sessions ticks seed = record {
  configs = map (config seed) (range_with_len 1 sessions);
  pool = [];
  events = events sessions ticks;
}
