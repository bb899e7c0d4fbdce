-- The control packet that a session transmits (RFC 5880 section 6.8.7, RFC 5881 section 4, RFC 5883 section 5).
use Rattle.std.specs.Prelude.{ℕ, Bool, false, List, [], Option, None, Some, is_some}
use Rattle.bfd_packet.specs.declared.control.Control.{Control}
use Rattle.bfd_packet.specs.declared.keys.SeqState.{SeqState}
use Rattle.bfd_packet.specs.declared.arrival.Datagram.{Datagram}
use Rattle.bfd_packet.specs.KeyChain.{KeyChain}
use Rattle.bfd_packet.specs.Layout.{text_of}
use Rattle.bfd_auth.specs.Sealed.{sealed, sealed_seq}
use Rattle.bfd_rules.specs.declared.config.Role.{Role}
use Rattle.bfd_rules.specs.declared.config.Role.TheVariants.{Single, Multi}
use Rattle.bfd_rules.specs.declared.config.Config.{Config}
use Rattle.bfd_rules.specs.declared.variables.Vars.{Vars}
use Rattle.bfd_rules.specs.Quantities.{adv_tx, demand_here}
use Rattle.bfd_rules.specs.EventFrame.{Course, sends}

-- the fields of a transmitted packet, with P and F as the rule that sends it says
abbrev pub packet_of : Config → Vars → Bool → Bool → Control
packet_of c v poll fin = record {
  diag = v.diag;
  state = v.state;
  poll = poll;
  fin = fin;
  cpi = false;
  auth = is_some c.keys;
  demand = demand_here v;
  multi = false;
  mult = v.mult;
  length = 0;
  my = c.discr;
  your = v.remote_discr;
  min_tx = adv_tx v;
  min_rx = v.rx;
  min_echo = 0;
}

-- its bytes: plain, or sealed with the sending key (section 6.7)
abbrev pub packet_bytes : Option KeyChain → ℕ → SeqState → Control → List ℕ
packet_bytes None sending seq packet = text_of packet []
packet_bytes (Some keys) sending seq packet = sealed keys sending seq packet

-- the sequence state after it
abbrev pub seq_after : Option KeyChain → SeqState → SeqState
seq_after None seq = seq
seq_after (Some keys) seq = sealed_seq keys seq

-- the destination port of control packets
abbrev pub port_number : Role → ℕ
port_number Single = 3784
port_number Multi = 4784

-- these bytes on their way to the peer, with TTL 255
abbrev pub datagram_of : Config → List ℕ → Datagram
datagram_of c bytes = record {
  iface = c.iface;
  src = c.local;
  sport = 49152;
  dst = c.remote;
  dport = port_number c.role;
  ttl = 255;
  bytes = bytes;
}

-- a packet is transmitted
unfoldable pub transmits : Config → Bool → Bool → Course → Course
transmits c poll fin s =
    sends c.discr (datagram_of c (packet_bytes c.keys s.vars.sending s.vars.seq (packet_of c s.vars poll fin)))
    (record s { vars = record s.vars { seq = seq_after c.keys s.vars.seq } })
