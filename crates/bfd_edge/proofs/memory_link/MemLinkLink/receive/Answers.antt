use Rattle.std.proofs.Common.{ap, sym}
use Rattle.bfd_edge.specs.MemoryLink.{observed_of}
use Rattle.bfd_edge.proofs.Hearing.{heard_all, observed_more}
use Rattle.bfd_edge.proofs.memory_link.MemLinkLink.receive.Goals as goal

pub returns-clause-after : goal.returns-clause-after
returns-clause-after c =
    let answer = c.heard_at-received.result in
    rw (c.items_of.ensures, c.note_received.ensures)
    (observed_more answer (heard_all c.self.inside.heard.items c.self.inside.at answer
    (rw c.deref.ensures.value at c.heard_at-received.ensures)).0 (ap (λ link. observed_of link) (sym c.self.view_is)))

pub returns-clause-answer : goal.returns-clause-answer
returns-clause-answer c =
    let items = c.self.inside.heard.items in
    let answer = c.heard_at-received.result in
    let heard = heard_all items c.self.inside.at answer (rw c.deref.ensures.value at c.heard_at-received.ensures) in
    rw (c.items_of.ensures, ← c.self.view_is) heard.1
