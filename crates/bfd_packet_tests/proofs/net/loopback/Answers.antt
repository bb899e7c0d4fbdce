use Rattle.std.proofs.Common.{ap, ◌∙◌}
use Rattle.bfd_edge.specs.Ports.{PortsObserved}
use Rattle.bfd_net.specs.Sockets.{ports_observed_of}
use Rattle.bfd_packet_tests.proofs.net.loopback.Goals as goal

-- number 0 alone was opened
pub open-requires-2 : goal.open-requires-2
open-requires-2 g c =
    ap (λ (observed : PortsObserved). observed.opened 1) c.in-Ok.ensures.after
    ∙ ap (λ ports. (ports_observed_of ports).opened 1) c.make-ports.ensures
