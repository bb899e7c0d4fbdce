-- The control packet that an initiator transmits (RFC 7880 section 7.3.2, RFC 7881 section 5.1).
use Rattle.std.specs.Prelude.{ℕ, true, false, List, []}
use Rattle.bfd_packet.specs.declared.control.Control.{Control}
use Rattle.bfd_packet.specs.declared.arrival.Datagram.{Datagram}
use Rattle.bfd_packet.specs.Layout.{text_of}
use Rattle.bfd_rules.specs.declared.variables.Vars.{Vars}
use Rattle.bfd_rules.specs.Quantities.{adv_tx}
use Rattle.bfd_rules.specs.EventFrame.{Course, sends}
use Rattle.bfd_sbfd.specs.declared.config.InitiatorConfig.{InitiatorConfig}

-- its fields: D marks the packet as one for a reflector, and Your Discriminator is the one that is sought. A Required
-- Min RX Interval of 0 asks for no packets but answers
abbrev pub packet_of : InitiatorConfig → Vars → Control
packet_of c v = record {
  diag = v.diag;
  state = v.state;
  poll = false;
  fin = false;
  cpi = false;
  auth = false;
  demand = true;
  multi = false;
  mult = v.mult;
  length = 0;
  my = c.discr;
  your = c.target;
  min_tx = adv_tx v;
  min_rx = 0;
  min_echo = 0;
}

-- these bytes on their way to the reflectors' port, with TTL 255
abbrev pub datagram_of : InitiatorConfig → List ℕ → Datagram
datagram_of c bytes = record {
  iface = c.iface;
  src = c.local;
  sport = 49152;
  dst = c.remote;
  dport = 7784;
  ttl = 255;
  bytes = bytes;
}

-- a packet is transmitted
unfoldable pub transmits : InitiatorConfig → Course → Course
transmits c s = sends c.discr (datagram_of c (text_of (packet_of c s.vars) [])) s
