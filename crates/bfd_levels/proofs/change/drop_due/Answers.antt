use Rattle.bfd_levels.proofs.Views.{levels_linked}
use Rattle.bfd_levels.proofs.change.drop_due.Goals as goal

pub free-requires-clause-linked : goal.free-requires-clause-linked
free-requires-clause-linked g c = levels_linked c.requires.levels c.requires.id
