use Rattle.std.proofs.Common.{ℕ, ◌∙◌, ap, sym}
use Rattle.bfd_edge.specs.declared.link.LinkCounts.{LinkCounts}
use Rattle.bfd_edge.specs.Places.{place_in, ports_observed}
use Rattle.bfd_edge.specs.Ports.{after_shut}
use Rattle.bfd_edge.proofs.Placing.{shut_observed}
use Rattle.bfd_net.specs.Sockets.{counts_observed, link_observed, ports_observed_of}
use Rattle.bfd_net.proofs.ports.UdpPortsPorts.shut.Goals as goal

pub returns-clause-after : goal.returns-clause-after
returns-clause-after g c =
    let number = c.args.number in
    let places = c.self.inside.places in
    let faults = c.self.inside.faults in
    let opened = ap (λ ports. (ports_observed_of ports).opened number) c.self.view_is ∙ c.requires.opened in
    shut_observed counts_observed (place_in places) _ number faults (number, c.counts.result) c.shut.ensures opened
    ∙ (ap (λ (kept : ℕ × LinkCounts). after_shut number (counts_observed kept) (ports_observed counts_observed (place_in places) faults))
    (λ i. (sym c.requires.number i, c.counts.ensures i))
    ∙ ap (λ ports. after_shut number (link_observed c.args.link) (ports_observed_of ports)) c.self.view_is)
