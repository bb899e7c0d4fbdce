use Rattle.bfd_levels.proofs.Common.{refl, set-set, never}
use Rattle.bfd_levels.proofs.Views.{levels_linked}
use Rattle.bfd_levels.proofs.change.change.Goals as goal

pub free-requires-clause-linked : goal.free-requires-clause-linked
free-requires-clause-linked g c = levels_linked c.requires.levels c.requires.id

pub returns-clause-dues : goal.returns-clause-dues
returns-clause-dues g c = cc (set-set c.args.dues.now c.args.id never c.args.due)

pub returns-clause-soonest : goal.returns-clause-soonest
returns-clause-soonest g c = c.after_write.ensures c.args.dues.now c.args.id c.requires.soonest c.requires.id refl
    (cc (set-set c.args.dues.now c.args.id never c.args.due))
