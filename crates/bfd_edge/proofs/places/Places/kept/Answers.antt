use Rattle.std.proofs.Common.{◌∙◌, ap, sym}
use Rattle.bfd_edge.specs.Places.{is_shut, place_in}
use Rattle.bfd_edge.proofs.Placing.{place_past, place_there}
use Rattle.bfd_edge.proofs.places.Places.kept.Goals as goal

pub returns-in-None : goal.returns-in-None
returns-in-None g c = ap is_shut (ap (λ places. place_in places c.args.number) (sym c.self.view_is ∙ sym c.deref.ensures.value)
    ∙ place_past c.deref.result.now c.args.number c.in-None.ensures.lookup.0)

pub returns-in-Some-Waiting : goal.returns-in-Some-Waiting
returns-in-Some-Waiting g c =
    let look = c.in-Some-Waiting.ensures.lookup in
    ap is_shut (ap (λ places. place_in places c.args.number) (sym c.self.view_is ∙ sym c.deref.ensures.value)
    ∙ (place_there c.deref.result.now c.args.number look.0 look.1 ∙ c.in-Some-Waiting.field-0-is))

pub returns-in-Some-Opened : goal.returns-in-Some-Opened
returns-in-Some-Opened g c =
    let look = c.in-Some-Opened.ensures.lookup in
    ap is_shut (ap (λ places. place_in places c.args.number) (sym c.self.view_is ∙ sym c.deref.ensures.value)
    ∙ (place_there c.deref.result.now c.args.number look.0 look.1 ∙ c.in-Some-Opened.field-0-is))

pub returns-in-Some-Shut : goal.returns-in-Some-Shut
returns-in-Some-Shut g c =
    let look = c.in-Some-Shut.ensures.lookup in
    cc (place_there c.deref.result.now c.args.number look.0 look.1, c.in-Some-Shut.field-0-is)
