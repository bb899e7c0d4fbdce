-- The control packet that a head transmits (RFC 8562 sections 5.1 and 5.13, RFC 5881 section 4).
use Rattle.std.specs.Prelude.{ℕ, Bool, true, false, List, []}
use Rattle.bfd_packet.specs.declared.control.Control.{Control}
use Rattle.bfd_packet.specs.declared.arrival.Datagram.{Datagram}
use Rattle.bfd_packet.specs.Layout.{text_of}
use Rattle.bfd_rules.specs.declared.variables.Vars.{Vars}
use Rattle.bfd_rules.specs.EventFrame.{Course, sends}
use Rattle.bfd_mp.specs.declared.config.HeadConfig.{HeadConfig}

-- its fields, with P as the rule that sends it says: M and D are set, Your Discriminator is 0, and a Required Min RX
-- Interval of 0 asks for no packets; the interval is the configured one in every state
abbrev pub packet_of : HeadConfig → Vars → Bool → Control
packet_of c v poll = record {
  diag = v.diag;
  state = v.state;
  poll = poll;
  fin = false;
  cpi = false;
  auth = false;
  demand = true;
  multi = true;
  mult = v.mult;
  length = 0;
  my = c.discr;
  your = 0;
  min_tx = v.tx;
  min_rx = 0;
  min_echo = 0;
}

-- these bytes on their way to the group, with TTL 255
abbrev pub datagram_of : HeadConfig → List ℕ → Datagram
datagram_of c bytes = record {
  iface = c.iface;
  src = c.local;
  sport = 49152;
  dst = c.group;
  dport = 3784;
  ttl = 255;
  bytes = bytes;
}

-- a packet is transmitted
unfoldable pub transmits : HeadConfig → Bool → Course → Course
transmits c poll s = sends c.discr (datagram_of c (text_of (packet_of c s.vars poll) [])) s
