-- Which port and address the link of a number hears.
use Rattle.std.specs.Prelude.{◌≡◌, ℕ, ◌+◌, ◌-◌, ◌/◌, ◌%◌, ◌^◌, ◌==◌, Bool, false, Option, None, Some, if◌then◌else◌}
use Rattle.std.specs.declared.net.socket_addr.SocketAddrV4.{SocketAddrV4}
use Rattle.std.specs.Net.Addr.{IsIpv4OfBits}
use Rattle.std.specs.Net.Socket.{v4_ip, v4_port}
use Rattle.bfd_packet.specs.declared.arrival.Addr.{Addr}
use Rattle.bfd_packet.specs.declared.arrival.Addr.TheVariants.{V4, V6}
use Rattle.bfd_packet.specs.declared.arrival.Port.{Port}
use Rattle.bfd_packet.specs.declared.arrival.Port.TheVariants.{Single, Multi, Echo, Sbfd, Answer}

-- the UDP port of a kind of port
abbrev pub port_number : Port → ℕ
port_number Single = 3784
port_number Multi = 4784
port_number Echo = 3785
port_number Sbfd = 7784
port_number Answer = 49152

-- the kinds of ports in the order of the links
abbrev pub port_at : ℕ → Port
port_at n =
    if n == 0 then Single
    else if n == 1 then Multi
    else if n == 2 then Echo
    else if n == 3 then Sbfd
    else Answer

-- 127.0.0.1 for links 1 to 5, 127.0.0.2 for links 6 to 10, and so on
abbrev pub loopback_of : ℕ → ℕ
loopback_of number = 0x7f000001 + (number - 1) / 5

-- the port and the address that a link hears: link 0 only sends
abbrev pub hears_of : ℕ → Option (Port × ℕ)
hears_of number = if number == 0 then None else Some (port_at ((number - 1) % 5), loopback_of number)

-- the socket address of a link that hears this; a link that only sends is on 127.0.0.1, at any free port
abbrev pub IsSocketPlace : Option (Port × ℕ) → SocketAddrV4 → Type 0
IsSocketPlace None place = IsIpv4OfBits (v4_ip place) 0x7f000001 × (v4_port place ≡ 0)
IsSocketPlace (Some (port, address)) place = IsIpv4OfBits (v4_ip place) address × (v4_port place ≡ port_number port)

-- 127.0.0.0 to 127.255.255.255
abbrev pub is_local_addr : Addr → Bool
is_local_addr (V4 address) = address / 2 ^ 24 == 127
is_local_addr (V6 address) = false
