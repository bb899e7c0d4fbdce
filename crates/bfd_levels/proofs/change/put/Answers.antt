use Rattle.bfd_levels.proofs.Common.{arith}
use Rattle.bfd_levels.proofs.Views.{levels_filled}
use Rattle.bfd_levels.proofs.change.put.Goals as goal

pub returns-clause-levels : goal.returns-clause-levels
returns-clause-levels g c = levels_filled c.link.new.nodes c.requires.levels c.requires.id c.requires.off (λ e. absurd (omega arith))
    c.link.auto.nodes
    (rw (← c.head_of-head.ensures.place) c.link.ensures)
