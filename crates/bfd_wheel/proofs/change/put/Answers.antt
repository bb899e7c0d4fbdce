use Rattle.bfd_wheel.proofs.Common.{arith}
use Rattle.bfd_wheel.proofs.Wheels.{filled, first_linked}
use Rattle.bfd_wheel.proofs.change.put.Goals as goal

pub link-requires-clause-next : goal.link-requires-clause-next
link-requires-clause-next g c = (first_linked c.args.id c.requires.wheel c.requires.off c.head_of-head.ensures.head
    c.head_of-head.ensures.end).0

pub link-requires-clause-apart : goal.link-requires-clause-apart
link-requires-clause-apart g c = (first_linked c.args.id c.requires.wheel c.requires.off c.head_of-head.ensures.head
    c.head_of-head.ensures.end).1

pub returns-clause-wheel : goal.returns-clause-wheel
returns-clause-wheel g c = filled c.link.new.nodes c.requires.wheel c.requires.id c.requires.off (λ e. absurd (omega arith))
    c.link.auto.nodes
    (rw (← c.head_of-head.ensures.place) c.link.ensures)
