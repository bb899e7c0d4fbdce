-- Addresses.
use Rattle.std.specs.Prelude.{Bool, false, ◌==◌}
use Rattle.bfd_packet.specs.declared.arrival.Addr.{Addr}
use Rattle.bfd_packet.specs.declared.arrival.Addr.TheVariants.{V4, V6}

-- one address is the other
abbrev pub same_addr : Addr → Addr → Bool
same_addr (V4 a) (V4 b) = a == b
same_addr (V6 a) (V6 b) = a == b
same_addr _ _ = false
