-- The port on which a session's control packets arrive (RFC 5881 section 4, RFC 5883 section 5).
use Rattle.bfd_packet.specs.declared.arrival.Port.{Port}
use Rattle.bfd_packet.specs.declared.arrival.Port.TheVariants.{Single as SinglePort, Multi as MultiPort}
use Rattle.bfd_rules.specs.declared.config.Role.{Role}
use Rattle.bfd_rules.specs.declared.config.Role.TheVariants.{Single, Multi}

abbrev pub port_of : Role → Port
port_of Single = SinglePort
port_of Multi = MultiPort
