use Rattle.bfd_levels.proofs.Views.{levels_freed}
use Rattle.bfd_levels.proofs.change.free.Goals as goal

pub returns-then-dues-id-clause-levels : goal.returns-then-dues-id-clause-levels
returns-then-dues-id-clause-levels g c = λ n now w.
    rw c.detach.ensures.dues (levels_freed c.detach.new.nodes w c.requires.id c.if-dues-id.true c.detach.auto.nodes c.detach.ensures.links)
