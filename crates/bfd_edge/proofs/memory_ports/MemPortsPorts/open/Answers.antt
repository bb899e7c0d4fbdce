use Rattle.std.proofs.Common.{rules, ◌≡◌, false, ◌∙◌, ap}
use Rattle.std.specs.Prelude.{Ok}
use Rattle.bfd_edge.specs.declared.places.Place.TheVariants.{Opened}
use Rattle.bfd_edge.specs.Memory.{is_to_fail}
use Rattle.bfd_edge.specs.Links.{IsNewLink}
use Rattle.bfd_edge.specs.MemoryLink.{HeldLink}
use Rattle.bfd_edge.specs.MemoryLink as memory_link
use Rattle.bfd_edge.specs.MemoryPorts.{HeldPorts, link_at, observed_of, with_ended}
use Rattle.bfd_edge.specs.Places.{place_in, ports_observed, with_place}
use Rattle.bfd_edge.specs.Ports.{after_open}
use Rattle.bfd_edge.proofs.Opening.{new_at, new_still}
use Rattle.bfd_edge.proofs.Placing.{open_observed}
use Rattle.bfd_edge.proofs.memory_ports.MemPortsPorts.open.Goals as goal

pub returns-in-Err-clause-after : goal.returns-in-Err-clause-after
returns-in-Err-clause-after c =
    ap (λ places. ports_observed memory_link.observed_of places c.self.inside.faults) c.in-Err.ensures.err
    ∙ ap (λ ports. observed_of ports) c.self.view_is

pub returns-in-Err-clause-answer : goal.returns-in-Err-clause-answer
returns-in-Err-clause-answer c =
    let calm : is_to_fail c.args.self.now.calls c.args.self.now.fails ≡ false = search rules in (
      calm,
      c.in-Err.ensures.err ∙ ap (λ ports. place_in ports.places) c.self.view_is,
      ap (λ (ports : HeldPorts). record ports { places = c.open.new.self }) c.self.view_is,
    )

pub invariant_of-self-in-Ok : goal.invariant_of-self-in-Ok
invariant_of-self-in-Ok c = rw c.take_link-link.ensures.rest (new_still c.self.inside.links.items c.args.number c.self.invariant)

pub returns-in-Ok-clause-link : goal.returns-in-Ok-clause-link
returns-in-Ok-clause-link c =
    let taken : IsNewLink (memory_link.observed_of c.take_link-link.result) =
    rw c.take_link-link.ensures.link (new_at c.self.inside.links.items c.args.number c.self.invariant) in
    rw c.opened_as.ensures (record { counts = taken.counts; traffic = taken.traffic })

pub returns-in-Ok-clause-after : goal.returns-in-Ok-clause-after
returns-in-Ok-clause-after c =
    let number = c.args.number in
    let places = c.self.inside.places in
    let waiting = ap (λ ports. (observed_of ports).opened number) c.self.view_is ∙ c.requires in
    open_observed memory_link.observed_of (place_in places) _ number c.self.inside.faults c.opened_as.result c.in-Ok.ensures.ok waiting
    ∙ ap (λ ports. after_open number (Ok c.opened_as.result) (observed_of ports)) c.self.view_is

pub returns-in-Ok-clause-answer : goal.returns-in-Ok-clause-answer
returns-in-Ok-clause-answer c =
    let number = c.args.number in (
      search rules,
      c.opened_as.ensures ∙ ap (λ (link : HeldLink). record link { number = number })
          (c.take_link-link.ensures.link ∙ ap (λ ports. link_at ports.links number) c.self.view_is),
      c.take_link-link.ensures.rest ∙ ap (λ ports. with_ended number ports.links) c.self.view_is,
      c.in-Ok.ensures.ok ∙ ap (λ ports. with_place number Opened (place_in ports.places)) c.self.view_is,
      search rules,
      cc,
    )
