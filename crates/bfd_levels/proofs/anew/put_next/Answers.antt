-- The next id is on no list, so it may be put on one.
use Rattle.bfd_levels.proofs.Common.{arith}
use Rattle.bfd_wheel.proofs.Linking.{none_next}
use Rattle.bfd_levels.proofs.Linking.{next_put, none_put}
use Rattle.bfd_levels.proofs.Views.{levels_first}
use Rattle.bfd_levels.proofs.anew.put_next.Goals as goal

pub link-requires-clause-next : goal.link-requires-clause-next
link-requires-clause-next c = (levels_first c.args.id c.requires.levels (none_next c.args.dues.now c.args.id c.requires.id)
    c.head_of-head.ensures.head c.head_of-head.ensures.end).0

pub link-requires-clause-apart : goal.link-requires-clause-apart
link-requires-clause-apart c = (levels_first c.args.id c.requires.levels (none_next c.args.dues.now c.args.id c.requires.id)
    c.head_of-head.ensures.head c.head_of-head.ensures.end).1

pub returns-then-due : goal.returns-then-due
returns-then-due c = next_put c.args.dues.now c.link.new.nodes c.requires.levels c.requires.id c.if-due.true c.head_of-head.ensures.place
    c.link.auto.nodes c.link.ensures

pub returns-else-due : goal.returns-else-due
returns-else-due c = none_put c.args.dues.now c.requires.levels c.requires.id (omega arith)
