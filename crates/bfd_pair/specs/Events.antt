-- Which configurations are of peers.
use Rattle.std.specs.Prelude.{Bool, true, false, ◌&&◌}
use Rattle.bfd_packet.specs.Addresses.{same_addr}
use Rattle.bfd_rules.specs.declared.config.Config.{Config}
use Rattle.bfd_rules.specs.declared.config.Role.{Role}
use Rattle.bfd_rules.specs.declared.config.Role.TheVariants.{Single, Multi}

abbrev pub same_role : Role → Role → Bool
same_role Single Single = true
same_role Multi Multi = true
same_role _ _ = false

-- two ends of one path: over as many hops, and each one's local address is the other's remote one (RFC 5881, RFC 5883)
abbrev pub are_peers : Config → Config → Bool
are_peers left right =
    same_role left.role right.role && (same_addr left.local right.remote && same_addr right.local left.remote)
