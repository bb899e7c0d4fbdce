use Rattle.std.proofs.Common.{◌≡◌, false, ◌∙◌, ap}
use Rattle.std.specs.Prelude.{Ok}
use Rattle.bfd_edge.specs.Places.{is_opened, place_in, ports_observed}
use Rattle.bfd_edge.specs.Ports.{after_open}
use Rattle.bfd_edge.proofs.Placing.{open_observed}
use Rattle.bfd_net.specs.Sockets.{counts_observed, ports_observed_of}
use Rattle.bfd_net.proofs.ports.UdpPortsPorts.open.Goals.{in-Ok, in-Err}
use Rattle.bfd_net.proofs.ports.UdpPortsPorts.open.Goals as goal

pub returns-clause-after : goal.returns-clause-after
returns-clause-after g c =
    let number = c.args.number in
    let places = c.self.inside.places in
    let faults = c.self.inside.faults in
    let waiting : is_opened (place_in places number) ≡ false = cc in
    elim c.match-open.branch [
      | in-Ok w ↦ rw w.result-is (open_observed counts_observed (place_in places) _ number faults c.in-Some.link w.in-Ok.ensures.ok waiting
          ∙ ap (λ ports. after_open number (Ok c.in-Some.link) (ports_observed_of ports)) c.self.view_is)
      | in-Err w ↦ rw w.result-is (ap (λ after. ports_observed counts_observed after faults) w.in-Err.ensures.err
          ∙ ap (λ ports. ports_observed_of ports) c.self.view_is)
    ]
