-- The echo packet. Its payload is a local matter, since its sender alone reads it (RFC 5880 section 5): this form is our
-- own. Its port and addresses bring it back (RFC 5881 section 4).
use Rattle.std.specs.Prelude.{ℕ, List, ◌++◌}
use Rattle.byteorder.specs.Endian.{big_bytes}
use Rattle.bfd_packet.specs.declared.arrival.Addr.{Addr}
use Rattle.bfd_packet.specs.declared.arrival.Datagram.{Datagram}

-- what each echo packet begins with: "BFDe"
abbrev pub sign : ℕ
sign = 0x4246_4465

-- four words: the sign, the local discriminator, the sequence number, and 0
unfoldable pub echo_text : ℕ → ℕ → List ℕ
echo_text discr sequence = big_bytes 4 sign ++ (big_bytes 4 discr ++ (big_bytes 4 sequence ++ big_bytes 4 0))

-- these bytes on a session's interface, with the session's own address as source and destination, so that the peer forwards them back
abbrev pub echo_datagram : ℕ → Addr → List ℕ → Datagram
echo_datagram iface local bytes = record {
  iface = iface;
  src = local;
  sport = 49152;
  dst = local;
  dport = 3785;
  ttl = 255;
  bytes = bytes;
}
