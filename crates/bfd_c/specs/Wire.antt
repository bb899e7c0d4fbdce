-- What the addresses and packets of C stand for.
use Rattle.std.specs.Prelude.{ℕ, ◌==◌, ◌++◌, nat_lt, Option, None, Some, List, [], ◌∷◌, slice_index, if◌then◌else◌, take, replicate}
use Rattle.std.specs.Int.{w32, w128, from_be_bytes, to_be_bytes}
use Rattle.bfd_packet.specs.declared.arrival.Addr.{Addr}
use Rattle.bfd_packet.specs.declared.arrival.Addr.TheVariants.{V4, V6}
use Rattle.bfd_packet.specs.declared.arrival.Arrival.{Arrival}
use Rattle.bfd_packet.specs.declared.arrival.Port.{Port}
use Rattle.bfd_packet.specs.declared.arrival.Port.TheVariants.{Single, Multi, Echo, Sbfd, Answer}
use Rattle.bfd_c.specs.declared.wire.Address.{Address}
use Rattle.bfd_c.specs.declared.wire.Packet.{Packet}

-- an address of family 4 or 6, in network order
abbrev pub addr_of : Address → Option Addr
addr_of a =
    if a.family == 4 then Some (V4 (from_be_bytes w32
    (slice_index a.bytes 0 ∷ slice_index a.bytes 1 ∷ slice_index a.bytes 2 ∷ slice_index a.bytes 3 ∷ [])))
    else if a.family == 6 then Some (V6 (from_be_bytes w128 a.bytes))
    else None

-- an address for C: of family 4 the last twelve bytes are 0
abbrev pub address_for_c : Addr → Address
address_for_c (V4 n) = record { family = 4; bytes = to_be_bytes w32 n ++ replicate 12 0 }
address_for_c (V6 n) = record { family = 6; bytes = to_be_bytes w128 n }

-- a kind of port, by its number
abbrev pub port_by_number : ℕ → Option Port
port_by_number n =
    if n == 1 then Some Single
    else if n == 2 then Some Multi
    else if n == 3 then Some Echo
    else if n == 4 then Some Sbfd
    else if n == 5 then Some Answer
    else None

-- a packet, if its port and its addresses are valid
abbrev pub arrival_with : Packet → List ℕ → Option Port → Option Addr → Option Addr → Option Arrival
arrival_with packet payload None src dst = None
arrival_with packet payload (Some port) None dst = None
arrival_with packet payload (Some port) (Some src) None = None
arrival_with packet payload (Some port) (Some src) (Some dst) =
    Some (record {
      port = port;
      iface = packet.iface;
      src = src;
      sport = packet.sport;
      dst = dst;
      ttl = packet.ttl;
      payload = take 256 payload;
    })

-- a packet with its payload, if its interface has a number that the packet file allows too
abbrev pub arrival_from_c : Packet → List ℕ → Option Arrival
arrival_from_c packet payload =
    if nat_lt packet.iface 65536 then arrival_with packet payload (port_by_number packet.port) (addr_of packet.src) (addr_of packet.dst)
    else None
