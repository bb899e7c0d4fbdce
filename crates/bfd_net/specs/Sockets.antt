-- What links and ports over UDP keep.
use Rattle.std.specs.Prelude.{◌≡◌, ℕ, ◌+◌, ◌==◌, nat_le, ⊤, Bool, true, Option, None, Some, List, Result, Ok, Err, take, if◌then◌else◌}
use Rattle.std.specs.IoError.{error_kind}
use Rattle.std.specs.declared.io.Error.{Error}
use Rattle.std.specs.declared.io.ErrorKind.{ErrorKind}
use Rattle.std.specs.declared.io.ErrorKind.TheVariants.{WouldBlock, TimedOut}
use Rattle.std.specs.declared.net.socket_addr.SocketAddr.{SocketAddr}
use Rattle.std.specs.declared.net.socket_addr.SocketAddr.TheVariants as socket
use Rattle.std.specs.declared.time.Instant.{Instant}
use Rattle.std.specs.declared.net.socket_addr.SocketAddrV4.{SocketAddrV4}
use Rattle.std.specs.Net.Addr.{IsIpv4OfBits, ipv4_bits}
use Rattle.std.specs.Net.Socket.{v4_ip, v4_port}
use Rattle.bfd_packet.specs.declared.arrival.Arrival.{Arrival}
use Rattle.bfd_packet.specs.declared.arrival.Datagram.{Datagram}
use Rattle.bfd_packet.specs.declared.arrival.Addr.TheVariants.{V4}
use Rattle.bfd_packet.specs.declared.arrival.Port.{Port}
use Rattle.bfd_edge.specs.declared.fault.Fault.{Fault}
use Rattle.bfd_edge.specs.declared.fault.Fault.TheVariants as fault
use Rattle.bfd_edge.specs.declared.link.LinkCounts.{LinkCounts}
use Rattle.bfd_edge.specs.declared.link.Received.{Received}
use Rattle.bfd_edge.specs.declared.link.Received.TheVariants.{Got, Quiet, Ended, Failed, Memory}
use Rattle.bfd_edge.specs.declared.places.Place.{Place}
use Rattle.bfd_edge.specs.Links.{LinkObserved}
use Rattle.bfd_edge.specs.Places.{place_in, ports_observed}
use Rattle.bfd_edge.specs.Ports.{PortsObserved}
use Rattle.bfd_net.specs.Clocks.{IsSince}

-- a link over a UDP socket
pub record UdpHeld : Type 0 where
  -- the number by which it was opened
  pub number : ℕ
  -- the reading of the clock at which its ports were made, if there was one
  pub made : Option Instant
  -- the port and the address that it hears; none if it only sends
  pub hears : Option (Port × ℕ)
  -- how many answers in a row were Quiet
  pub quiets : ℕ
  pub counts : LinkCounts

-- what is observed of a link of this number and with these counts: no traffic
abbrev pub counts_observed : ℕ × LinkCounts → LinkObserved
counts_observed kept = record { number = kept.0; traffic = None; counts = kept.1 }

abbrev pub link_observed : UdpHeld → LinkObserved
link_observed link = counts_observed (link.number, link.counts)

-- it answers Ended from here on: it only sends, or 500 answers in a row were Quiet
abbrev pub is_done : Option (Port × ℕ) → ℕ → Bool
is_done None quiets = true
is_done (Some hears) quiets = nat_le 500 quiets

-- how many answers in a row were Quiet, after this one; Ended and Memory don't count
abbrev pub quiets_after : Received → ℕ → ℕ
quiets_after (Got moment arrival) quiets = 0
quiets_after Quiet quiets = quiets + 1
quiets_after Ended quiets = quiets
quiets_after Failed quiets = 0
quiets_after Memory quiets = quiets

-- a packet came to where the link hears, on interface 1 and with TTL 255, at a moment since its ports were made
abbrev pub CameTo : Option Instant → Option (Port × ℕ) → Received → Type 0
CameTo made (Some (port, address)) (Got moment arrival) =
    (arrival.port ≡ port) × (arrival.dst ≡ V4 address) × (arrival.iface ≡ 1) × (arrival.ttl ≡ 255) × IsSince made moment
CameTo made hears received = ⊤

-- a packet with this payload that came from there, to this port and address
abbrev pub arrival_from : SocketAddrV4 → Port → ℕ → List ℕ → Arrival
arrival_from from port address payload = record {
  src = V4 (ipv4_bits (v4_ip from));
  dst = V4 address;
  payload = payload;
  iface = 1;
  sport = v4_port from;
  ttl = 255;
  port = port;
}

-- a failed receive: Quiet if nothing came in time
abbrev pub answer_on_error : ErrorKind → Received
answer_on_error WouldBlock = Quiet
answer_on_error TimedOut = Quiet
answer_on_error kind = Failed

-- this packet, at a moment since the ports were made; or the clock can't be read, or memory ran out
abbrev pub IsGot : Option Instant → Arrival → Received → Type 0
IsGot made arrival (Got moment came) = (came ≡ arrival) × IsSince made moment
IsGot made arrival Failed = ⊤
IsGot made arrival Memory = ⊤
IsGot made arrival Quiet = ⊥
IsGot made arrival Ended = ⊥

-- the answer when so many bytes of the buffer came from there, or the receive failed
abbrev pub IsHeard : Option Instant → Port → ℕ → Result (ℕ × SocketAddr) Error → List ℕ → Received → Type 0
IsHeard made port address (Ok (count, socket.V4 from)) buffer received =
    IsGot made (arrival_from from port address (take count buffer)) received
IsHeard made port address (Ok (count, socket.V6 from)) buffer received = received ≡ Failed
IsHeard made port address (Err error) buffer received = received ≡ answer_on_error (error_kind error)

-- a packet of so many bytes was sent whole, or the send failed
abbrev pub sent_of : Result ℕ Error → ℕ → Result (Unit {0}) Fault
sent_of (Ok count) long = if count == long then Ok tt else Err fault.Failed
sent_of (Err error) long = Err fault.Failed

-- where a datagram goes: its destination address and port
pub record IsTo (datagram : Datagram) (to : SocketAddrV4) : Type 0 where
  pub address : ℕ
  pub dst : datagram.dst ≡ V4 address
  pub ip : IsIpv4OfBits (v4_ip to) address
  pub port : v4_port to ≡ datagram.dport

-- ports over UDP
pub record UdpPortsHeld : Type 0 where
  -- the reading of the clock at which they were made, if there was one
  pub made : Option Instant
  -- what became of each number, and the number and the counts of the link of each that was shut
  pub places : List (Place (ℕ × LinkCounts))
  -- how often opening failed
  pub faults : ℕ

abbrev pub ports_observed_of : UdpPortsHeld → PortsObserved
ports_observed_of ports = ports_observed counts_observed (place_in ports.places) ports.faults
