use Rattle.bfd_levels.proofs.Common.{arith, waiting-le, none_waits, left_is, ordered}
use Rattle.bfd_levels.proofs.advance.take_overdue.Goals as goal

pub overdue-requires-clause-room : goal.overdue-requires-clause-room
overdue-requires-clause-room g c = omega (arith, waiting-le c.args.t c.args.dues.now)

pub returns-clause-items : goal.returns-clause-items
returns-clause-items g c = ordered _ _ _ _ _ _ c.sort_from.new.self.items (omega arith) c.overdue.ensures.took
    (none_waits _ _ c.overdue.new.dues c.requires.t c.overdue.auto.dues c.overdue.ensures.left)
    (cc) c.sort_from.ensures.front c.sort_from.ensures.rest c.sort_from.ensures.sorted

pub returns-clause-dues : goal.returns-clause-dues
returns-clause-dues g c = left_is _ c.args.dues.now c.overdue.new.dues (omega arith) c.overdue.auto.dues c.overdue.ensures.took.same_or_gone
    (none_waits _ _ c.overdue.new.dues c.requires.t c.overdue.auto.dues c.overdue.ensures.left)
