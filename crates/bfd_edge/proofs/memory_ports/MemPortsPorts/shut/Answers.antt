use Rattle.std.proofs.Common.{◌≡◌, true, ◌∙◌, ap}
use Rattle.bfd_edge.specs.declared.places.Place.TheVariants.{Shut}
use Rattle.bfd_edge.specs.MemoryLink as memory_link
use Rattle.bfd_edge.specs.MemoryPorts.{observed_of}
use Rattle.bfd_edge.specs.Places.{is_opened, place_in, with_place}
use Rattle.bfd_edge.specs.Ports.{after_shut}
use Rattle.bfd_edge.proofs.Placing.{shut_observed}
use Rattle.bfd_edge.proofs.memory_ports.MemPortsPorts.shut.Goals as goal

pub returns-clause-after : goal.returns-clause-after
returns-clause-after c =
    let number = c.args.number in
    let places = c.self.inside.places in
    let opened : is_opened (place_in places number) ≡ true = cc in
    shut_observed memory_link.observed_of (place_in places) _ number c.self.inside.faults c.args.link c.shut.ensures opened
    ∙ ap (λ ports. after_shut number (memory_link.observed_of c.args.link) (observed_of ports)) c.self.view_is

pub returns-clause-kept : goal.returns-clause-kept
returns-clause-kept c = c.shut.ensures ∙ ap (λ ports. with_place c.args.number (Shut c.args.link) (place_in ports.places)) c.self.view_is
